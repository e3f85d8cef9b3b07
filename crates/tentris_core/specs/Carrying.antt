-- A run of commands over stores. `Step` and `Run` say of worlds what each of them does.
use Rattle.std.specs.Prelude.{◌≡◌, ℕ, Bool, List, [], ◌∷◌, Option, map}
use Rattle.file_model.specs.FileMap.{FileMap}
use Rattle.script_model.specs.Commands.{Command}
use Rattle.run_model.specs.Answers.{Answer}
use Rattle.run_model.specs.Worlds.{FailedRead}
use Rattle.run_model.specs.Steps.{Event, Run}
use Rattle.graph_store.specs.StoreState.{StoreState}
use Rattle.line_batch.specs.Carrying.{Around, config_in, world_in, Carries}

-- what stands beside a store in a run with these settings
abbrev pub around : (ℕ → ℕ → ℕ → ℕ → ℕ) → Bool → ℕ → Option FileMap → Around
around mixed sorted most_bytes files = record { mixed = mixed; sorted = sorted; most_bytes = most_bytes; files = files }

-- one command of a run: what it answered, which read of it failed, and the store that it left
pub record StoreEvent : Type 0 where
  pub command : Command
  pub answer : Answer
  pub failed : Option FailedRead
  pub store : StoreState

-- an event as one of a run over worlds
abbrev pub event_in : Around → StoreEvent → Event
event_in A e = record { command = e.command; answer = e.answer; failed = e.failed; world = world_in A e.store }

abbrev pub events_in : Around → List StoreEvent → List Event
events_in A = map (event_in A)

-- one command after another, each from the store that the one before it left
abbrev pub CarriesAll : Around → StoreState → List StoreEvent → StoreState → Type 0
CarriesAll A s [] t = t ≡ s
CarriesAll A s (e ∷ es) t = Carries A s e.command e.store e.answer e.failed × CarriesAll A e.store es t

-- The commands took the store from s to t; over worlds this is a run.
pub record RunsOver (A : Around) (s : StoreState) (trace : List StoreEvent) (t : StoreState) : Type 0 where
  pub all : CarriesAll A s trace t
  pub run : Run (config_in A s) (world_in A s) (events_in A trace) (world_in A t)
