use Rattle.std.proofs.Common.{◌≡◌, ℕ, suc, ◌+◌, ◌++◌, drop, replicate, ap, ◌∙◌, arith}
use mathlib.Core.Path.{fun_ext}
use Rattle.head.specs.Queue.{highest}
use Rattle.store.specs.declared.types.Slot.TheVariants.{Unknown}
use Rattle.store.specs.Parts.{queue_of, table_of}
use Rattle.store.proofs.View.{queue_shift}
use Rattle.store.proofs.Settling.{front_same}
use Rattle.store.proofs.types.Queue.forward.Goals as goal

pub returns-clause-slots : goal.returns-clause-slots
returns-clause-slots c =
    let x = c.args.self.now in
    let m = c.args.m in
    let a = x.places in
    let b : x.base + (m + 1) ≡ suc (x.base + m) = omega arith in
    let k : m + 1 ≡ suc m = omega arith in
    (λ j. queue_of (b j) ((c.shifted-slots.ensures ∙ ap (λ (n : ℕ). drop n x.slots ++ replicate n Unknown) k) j)) ∙ queue_shift x.base x.slots m (omega arith)

pub returns-clause-gone : goal.returns-clause-gone
returns-clause-gone c =
    let x = c.args.self.now in
    let m = c.args.m in
    let a = x.places in
    let k : m + 1 ≡ suc m = omega arith in
    fun_ext (λ (t : ℕ). c.climb.ensures x.base t ∙ (front_same x.base x.slots (m + 1) t (table_of x.gone t) (omega arith) ∙ ap (λ n. highest (queue_of x.base x.slots) t n x.base (table_of x.gone t)) k))
