-- `event_vectors::events::event` hands over a table of zeros, which says nothing of a text.
use Rattle.json_ends.proofs.Laws.{ends-none}
use Rattle.event_vectors.proofs.events.event.Goals as goal

pub judge-requires : goal.judge-requires
judge-requires g c = ends-none _ 65536
