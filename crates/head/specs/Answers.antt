-- What calls answer.
use Rattle.std.specs.Prelude.{ℕ, List, [], None, Option}
use Rattle.frames.specs.declared.refusal.Refusal.{Refusal}
use Rattle.frames.specs.Values.{Message, Ack, Frame}
use Rattle.head.specs.Head.{Head}
use Rattle.head.specs.Upkeep.{settled}

-- made-it: with the number. ordered: with stamp and count of names. fired: with the count of frames put. delivered: the message and its stamp.
pub data Answer : Type 0 where
  refused : Refusal → Answer
  made_it : ℕ → Answer
  quiet : Answer
  repeat : Answer
  filled : Answer
  far : Answer
  kept : Answer
  crowded : Answer
  placed : Answer
  resent : Answer
  nothing : Answer
  not_yours : Answer
  ordered : ℕ → ℕ → Answer
  idle : Answer
  fired : ℕ → Answer
  waiting : Answer
  delivered : Message → ℕ → Answer

-- what a call answers, the head that it leaves, the frames that it puts, and the ACK that it issued, if any
pub record Done : Type 0 where
  pub answer : Answer
  pub head : Head
  pub puts : List Frame
  pub issued : Option Ack

-- an answer, with the upkeep
abbrev pub done : ℕ → Answer → Head → List Frame → Done
done n w h fs = record { answer = w; head = settled n h; puts = fs; issued = None }

-- a refusal changes nothing and puts nothing
abbrev pub refuse : Refusal → Head → Done
refuse e h = record { answer = refused e; head = h; puts = []; issued = None }
