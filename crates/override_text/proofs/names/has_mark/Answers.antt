-- `override_text::names::has_mark` meets its contract.
use Rattle.json_walk.specs.Strings.{raw_at}
use Rattle.override_text.proofs.NameLaws.{marks-raw}
use Rattle.override_text.proofs.names.has_mark.Goals as goal

pub returns : goal.returns
unfolding raw_at
returns c = rw (c.is_marked.ensures, c.min-2.ensures, c.inside.ensures) (marks-raw c.args.text.now c.args.name _ c.min.result (rw c.step.ensures at c.min.ensures))
