-- What a finished record means.
--   record_lists    its two lists, as plain values
use Rattle.record.specs.Lists.{Lists, lists_of}
use Rattle.record.specs.declared.record.Record.{Record}

abbrev pub record_lists : Record → Lists
record_lists r = lists_of r.table
