-- The mark: the first stamp from base on that is not full.
use Rattle.std.proofs.Common.{◌≡◌, ℕ, ◌+◌, ◌<◌, ◌≤◌, true, false, ap, inl, inr, arith}
use Rattle.std.proofs.lemmas.Bool.{cases_lt, both_ways}
use Rattle.head.specs.Head.{Head, mark}
use Rattle.head.specs.Queue.{Queue, first_not}
use Rattle.head.specs.Slots.{full, unknown}
use Rattle.head.proofs.Walk.{Stops, first_not_stops}

pub record IsMark (q : Queue) (b m : ℕ) : Type 0 where
  pub from : b ≤ m
  pub all : (u : ℕ) → b ≤ u → u < m → full (q u) ≡ true
  pub stop : full (q m) ≡ false

abbrev pub Window : Queue → ℕ → Type 0
Window q b = (s : ℕ) → b + 96 ≤ s → q s ≡ unknown

pub mark_is : (x : Head) → Window x.queue x.base → IsMark x.queue x.base (mark x)
unfolding mark
mark_is x w =
    let i : Stops full x.queue 96 x.base (first_not full x.queue 96 x.base) = first_not_stops full x.queue 96 x.base in
    record {
      from = i.from;
      all = i.before;
      stop = elim (cases_lt (first_not full x.queue 96 x.base) (x.base + 96)) [ inl h ↦ i.at h | inr h ↦ ap full (w (first_not full x.queue 96 x.base) h) ];
    }

pub mark_unique : (q : Queue) (b m k : ℕ) → IsMark q b m → IsMark q b k → m ≡ k
mark_unique q b m k i j =
    elim (cases_lt m k) [
      | inl h ↦ absurd (both_ways (full (q m)) i.stop (j.all m i.from h))
      | inr h ↦ elim (cases_lt k m) [
        | inl g ↦ absurd (both_ways (full (q k)) j.stop (i.all k j.from g))
        | inr g ↦ omega arith
      ]
    ]

-- a mark does not fall where what was full stays full
pub mark_grows : (p q : Queue) (b c m k : ℕ) → IsMark p b m → IsMark q c k → b ≤ c → ((u : ℕ) → c ≤ u → full (p u) ≡ true → full (q u) ≡ true) → m ≤ k
mark_grows p q b c m k i j h f =
    elim (cases_lt k m) [
      | inl g ↦ absurd (both_ways (full (q k)) j.stop (f k j.from (i.all k (omega (arith, j.from)) g)))
      | inr g ↦ g
    ]
