-- The numbers of the refusals.
use Rattle.std.specs.Prelude.{ℕ}
use Rattle.frames.specs.declared.refusal.Refusal.{Refusal}
use Rattle.frames.specs.declared.refusal.Refusal.TheVariants.{TooManyHeads, TooFewHeads, NoSuchHead, BadLevel, BadBodyLength, TooManyUnordered, NumbersUsedUp, StampsUsedUp, MemoryTooShort, NoDataSlot, NotAFrame, FieldOutOfRange, Contradiction, ValueOutOfRange, NotThisKind}

abbrev pub number_of : Refusal → ℕ
number_of TooManyHeads = 1
number_of TooFewHeads = 2
number_of NoSuchHead = 3
number_of BadLevel = 4
number_of BadBodyLength = 5
number_of TooManyUnordered = 6
number_of NumbersUsedUp = 7
number_of StampsUsedUp = 8
number_of MemoryTooShort = 9
number_of NoDataSlot = 10
number_of NotAFrame = 11
number_of FieldOutOfRange = 12
number_of Contradiction = 13
number_of ValueOutOfRange = 14
number_of NotThisKind = 15
