-- What was read, with the fault of it that decides: what the code hands on.
use Rattle.fault.specs.Fault.{first, First}
use Rattle.event.specs.Reading.{Judged}

pub record Decided (A : Type 0) : Type 0 where
  pub value : A
  pub fault : First

abbrev pub decided : {A : Type 0} → Judged A → Decided A
decided r = record { value = r.value; fault = first r.faults }
