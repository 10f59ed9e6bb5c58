-- `texts::visible::visible` meets its contract.
use Rattle.texts.proofs.visible.visible.Goals as goal

pub returns-then-public : goal.returns-then-public
returns-then-public c = rw c.if-public.true

pub returns : goal.returns
returns c = rw c.if-public.false
