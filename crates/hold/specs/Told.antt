-- The history that a list of performed operations tells.
use Rattle.std.specs.Prelude.{Bool, List, [], ◌∷◌}
use Rattle.hold.specs.Law.{Event, kept, dropped, History}
use Rattle.hold.specs.declared.operations.Task.{Task}
use Rattle.hold.specs.declared.operations.Task.TheVariants.{Keep, Drop}
use Rattle.hold.specs.declared.operations.Operation.{Operation}

abbrev pub event : Task → Bool → Event
event (Keep k f) stored = kept k f.now stored
event (Drop k) stored = dropped k stored

abbrev pub event_of : Operation → Event
event_of o = event o.task o.stored

abbrev pub task_of : Operation → Task
task_of o = o.task

-- the history so far, and then the operations in their order
abbrev pub told : History → List Operation → History
told h [] = h
told h (o ∷ os) = told (event_of o ∷ h) os
