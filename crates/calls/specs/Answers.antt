-- What the answers of the calls mean in the model.
use Rattle.std.specs.Prelude.{ℕ, [], ◌∷◌, Ok, Err, Result}
use Rattle.frames.specs.declared.refusal.Refusal.{Refusal}
use Rattle.frames.specs.Values.{data_frame}
use Rattle.frames.specs.Types.{message_meant}
use Rattle.head.specs.Head.{Head}
use Rattle.head.specs.Upkeep.{settled}
use Rattle.head.specs.Answers.{Answer, Done, done, refuse, made_it, quiet, kept, filled, repeat, far, placed, crowded, resent, nothing, not_yours, ordered, idle, fired, waiting, delivered}
use Rattle.store.specs.Look.{top_of}
use Rattle.store.specs.Puts.{puts_of}
use Rattle.calls.specs.declared.answers.Done.{Done as CDone}
use Rattle.frames.specs.declared.types.Message.{Message}
use Rattle.calls.specs.declared.answers.Submission.{Submission}
use Rattle.calls.specs.declared.answers.Submission.TheVariants as SubmissionCase
use Rattle.calls.specs.declared.answers.Hearing.{Hearing}
use Rattle.calls.specs.declared.answers.Hearing.TheVariants as HearingCase
use Rattle.calls.specs.declared.answers.Turned.{Turned}
use Rattle.calls.specs.declared.answers.Turned.TheVariants as TurnedCase
use Rattle.calls.specs.declared.answers.Ticked.{Ticked}
use Rattle.calls.specs.declared.answers.Ticked.TheVariants as TickedCase
use Rattle.calls.specs.declared.answers.Delivered.{Delivered}
use Rattle.calls.specs.declared.answers.Delivered.TheVariants as DeliveredCase

-- what the calls answer

abbrev pub submission : Submission → Answer
submission (SubmissionCase.Made k) = made_it k

abbrev pub hearing : Hearing → Answer
hearing HearingCase.Quiet = quiet
hearing HearingCase.Kept = kept
hearing HearingCase.Filled = filled
hearing HearingCase.Repeat = repeat
hearing HearingCase.Far = far
hearing HearingCase.Placed = placed
hearing HearingCase.Crowded = crowded
hearing HearingCase.Resent = resent
hearing HearingCase.Nothing = nothing

abbrev pub turned : Turned → Answer
turned TurnedCase.NotYours = not_yours
turned TurnedCase.Nothing = nothing
turned TurnedCase.Crowded = crowded
turned (TurnedCase.Ordered t m) = ordered t m

abbrev pub ticked : Ticked → Answer
ticked TickedCase.Idle = idle
ticked (TickedCase.Fired k) = fired k

abbrev pub handed : Delivered → Answer
handed DeliveredCase.Waiting = waiting
handed (DeliveredCase.Message m t) = delivered (message_meant m) t

-- what a call did, by the word of its answer and the head that it leaves
abbrev pub did : {A : Type 0} → (A → Answer) → CDone A → Head → Done
did word d h = record { answer = word d.answer; head = h; puts = puts_of d.puts; issued = top_of d.issued }

-- the same of a call that may refuse
abbrev pub does : {A : Type 0} → (A → Answer) → Result (CDone A) Refusal → Head → Done
does word (Ok d) h = did word d h
does word (Err e) h = refuse e h

-- a call that leaves this head to the upkeep
abbrev pub does_before : {A : Type 0} → ℕ → (A → Answer) → Result (CDone A) Refusal → Head → Done
does_before n word (Ok d) h = did word d (settled n h)
does_before n word (Err e) h = refuse e h

-- the same of a step of hear with nothing to put, by its answer
abbrev pub hears_before : ℕ → Result Hearing Refusal → Head → Done
hears_before n (Ok a) h = done n (hearing a) h []
hears_before n (Err e) h = refuse e h

-- the same of submit, by the message that it made
abbrev pub makes_before : ℕ → Result Message Refusal → Head → Done
makes_before n (Ok m) h = done n (made_it m.name.number) h (data_frame (message_meant m) ∷ [])
makes_before n (Err e) h = refuse e h
