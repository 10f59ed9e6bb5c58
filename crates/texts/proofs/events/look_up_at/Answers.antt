-- `texts::events::look_up_at` meets its contract.
use Rattle.texts.proofs.LookLaws.{secret-shown, open-shown}
use Rattle.texts.proofs.events.look_up_at.Goals as goal

pub returns-then-is_secret : goal.returns-then-is_secret
returns-then-is_secret c = secret-shown _ _ c.args.head c.requires.taken c.args.title c.args.x _ c.is_secret.ensures c.if-is_secret.true

pub returns : goal.returns
returns c = open-shown _ _ c.args.head c.requires.taken c.args.title c.args.x _ c.is_secret.ensures c.if-is_secret.false _ c.is_public.ensures _ c.look_up_event.ensures
