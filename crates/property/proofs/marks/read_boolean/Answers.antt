-- `property::marks::read_boolean` meets its contract.
use Rattle.event.specs.Reading.{or_wrong}
use Rattle.event.specs.Properties.{read_boolean}
use Rattle.property.proofs.Shapes.{shape-tree}
use Rattle.property.proofs.marks.read_boolean.Goals as goal

pub returns-in-False : goal.returns-in-False
unfolding read_boolean or_wrong
returns-in-False c = λ l. rw (shape-tree l, ← c.kind.ensures, c.in-False.is)

pub returns-in-True : goal.returns-in-True
unfolding read_boolean or_wrong
returns-in-True c = λ l. rw (shape-tree l, ← c.kind.ensures, c.in-True.is)

pub returns-in-Null : goal.returns-in-Null
unfolding read_boolean or_wrong
returns-in-Null c = λ l. rw (shape-tree l, ← c.kind.ensures, c.in-Null.is)

pub returns-in-Number : goal.returns-in-Number
unfolding read_boolean or_wrong
returns-in-Number c = λ l. rw (shape-tree l, ← c.kind.ensures, c.in-Number.is)

pub returns-in-String : goal.returns-in-String
unfolding read_boolean or_wrong
returns-in-String c = λ l. rw (shape-tree l, ← c.kind.ensures, c.in-String.is)

pub returns-in-Array : goal.returns-in-Array
unfolding read_boolean or_wrong
returns-in-Array c = λ l. rw (shape-tree l, ← c.kind.ensures, c.in-Array.is)

pub returns-in-Object : goal.returns-in-Object
unfolding read_boolean or_wrong
returns-in-Object c = λ l. rw (shape-tree l, ← c.kind.ensures, c.in-Object.is)
