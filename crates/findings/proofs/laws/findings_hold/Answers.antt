use Rattle.findings.proofs.Naming.{names_told, names_found, labels_apart}
use Rattle.findings.proofs.Passes.{same_record}
use Rattle.findings.proofs.Whole.{keeps_all, pass_found}
use Rattle.findings.proofs.laws.findings_hold.Goals as goal

pub returns : goal.returns
returns g c =
    let m = g.L.Layout.meaning in
    let laws = g.L.Layout.lawful in
    record {
      keeps = keeps_all m laws;
      found = pass_found m laws;
      same = same_record m;
      told = names_told m;
      names = names_found m;
      apart = labels_apart m;
    }
