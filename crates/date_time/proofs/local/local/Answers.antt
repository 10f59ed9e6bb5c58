-- `date_time::local::local` meets its contract.
use Rattle.date_time.proofs.Laws.{local-date}
use mathlib.Core.Path.{sym, ◌∙◌}
use Rattle.date_time.proofs.local.local.Goals as goal

pub seconds-requires : goal.seconds-requires
seconds-requires c = local-date _ _ (sym c.is_local.ensures ∙ c.if-not-is_local.false)
