-- A list of calls, one after another.
use Rattle.std.proofs.Common.{◌≡◌, ℕ, ◌+◌, ◌<◌, List, [], ◌∷◌, ◌++◌, length, take, get_or, sym, refl, subst}
use Rattle.std.proofs.lemmas.List.{take_more}
use Rattle.frames.specs.declared.types.RingSize.{RingSize}
use Rattle.links.specs.Meaning.{Waits}
use Rattle.ring.specs.declared.request.Request.{Request}
use Rattle.ring.specs.declared.request.Outcome.{Outcome}
use Rattle.ring.specs.declared.types.Ring.{Ring}
use Rattle.ring.specs.Ring.{Event, Trip}
use Rattle.ring.specs.Moves.{Moves, answered, ring_over}
use Rattle.ring.specs.Runs.{LawfulRun, call_of, word_of}

module _ {L : Type 0} (waits : L → Waits) (q : Request) (x : Outcome) (m s : Ring L) (made : Moves waits m q.head (call_of q.call) (answered word_of x.result) s) (same : x.head ≡ q.head) where
  -- one call more
  pub run_more : (qs : List Request) (xs : List Outcome) (es : List Event) (r : Ring L) → Trip r.heads.size.heads es (ring_over waits r) → LawfulRun waits qs xs es r m → LawfulRun waits (qs ++ q ∷ []) (xs ++ x ∷ []) es r s
  run_more [] [] es r t l =
      let n : Moves waits r q.head (call_of q.call) (answered word_of x.result) s = subst (λ (z : Ring L). Moves waits z q.head (call_of q.call) (answered word_of x.result) s) (sym l) made in
      (s, n, same, n.leads es t, n.law es t, refl)
  run_more [] (y ∷ ys) es r t l = absurd l
  run_more (p ∷ ps) [] es r t l = absurd l
  run_more (p ∷ ps) (y ∷ ys) es r t l =
      let first = l.1 in
      let leads : Trip l.0.heads.size.heads (first.event ∷ es) (ring_over waits l.0) = subst (λ (z : RingSize). Trip z.heads (first.event ∷ es) (ring_over waits l.0)) (sym first.size) l.3 in
      (l.0, first, l.2, l.3, l.4, run_more ps ys (first.event ∷ es) l.0 leads l.5)

-- the call at a place of the list is made, and its outcome is the next one
pub run_on : {L : Type 0} (waits : L → Waits) (rs : List Request) (i : ℕ) (d : Request) (x : Outcome) (m s : Ring L) → Moves waits m (get_or rs i d).head (call_of (get_or rs i d).call) (answered word_of x.result) s → x.head ≡ (get_or rs i d).head → i < length rs
    → (xs : List Outcome) (es : List Event) (r : Ring L) → Trip r.heads.size.heads es (ring_over waits r) → LawfulRun waits (take i rs) xs es r m → LawfulRun waits (take (i + 1) rs) (xs ++ x ∷ []) es r s
run_on waits rs i d x m s made same b xs es r t l = rw (take_more rs i d b) (run_more waits (get_or rs i d) x m s made same (take i rs) xs es r t l)
