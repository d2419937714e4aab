-- The parts of a workspace that mean something between calls.
--   Desk       the current record and the anchor's
--   both       a desk on which both are the same
--   desk_of    the desk of a workspace
use Rattle.record.specs.Lists.{Lists, lists_of}
use Rattle.session.specs.declared.workspace.Workspace.{Workspace}

pub record Desk : Type 0 where
  pub current : Lists
  pub anchor : Lists

abbrev pub both : Lists → Desk
both x = record { current = x; anchor = x }

abbrev pub desk_of : Workspace → Desk
desk_of w = record { current = lists_of w.current; anchor = lists_of w.anchor }
