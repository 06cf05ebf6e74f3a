use Rattle.std.proofs.Common.{◌≡◌, ℕ, max, eqb, sym, refl, ap, ◌∙◌, subst, inl, inr, arith}
use Rattle.std.proofs.lemmas.List.{get_or_past}
use Rattle.std.proofs.lemmas.Bool.{cases_eq, cases_lt, cond-true, cond-false, eq-eqb, ne_eqb}
use Rattle.store.specs.Parts.{inbox_of, lows_of, table_of}
use Rattle.store.proofs.View.{lows_past, pending_source}
use Rattle.store.proofs.Windows.{raised_none, raised_more, raised_all}
use Rattle.store.proofs.types.Inbox.raise_all.Goals as goal

pub loop-source-init : goal.loop-source-init
loop-source-init c = (λ t h. refl, λ t h. absurd (omega arith), raised_none c.args.low (inbox_of c.args.self.now))

pub loop-source-preserved : goal.loop-source-preserved
unfolding table_of
loop-source-preserved c =
    let v = c.loop-source.invariant in
    let e = c.raise.ensures.low in
    let s = c.loop-source.source in
    let old = lows_of c.args.self.now in
    let here : lows_of c.raise.new.self s ≡ max (old s) (table_of c.args.low s) = e s ∙ (cond-true (eqb s s) _ _ (eq-eqb s s refl) ∙ ap (λ n. max n (table_of c.args.low s)) (v.0 s (omega arith))) in
    let other : (t : ℕ) → (t ≡ s → ⊥) → lows_of c.raise.new.self t ≡ lows_of c.loop-source.self t = λ t f. e t ∙ cond-false (eqb t s) _ _ (ne_eqb t s f) in (
      λ t h. other t (omega arith) ∙ v.0 t (omega arith),
      λ t h. elim (cases_eq t s) [
        | inl f ↦ subst (λ n. lows_of c.raise.new.self n ≡ max (old n) (table_of c.args.low n)) (sym f) here
        | inr f ↦ other t f ∙ v.1 t (omega arith)
      ],
      raised_more c.args.low (inbox_of c.args.self.now) (inbox_of c.loop-source.self) _ s v.2 c.raise.ensures.pending,
    )

pub returns-clause-low : goal.returns-clause-low
unfolding table_of
returns-clause-low c s =
    let b = c.args.self.now in
    let l = c.loop-source.self in
    let m = b.places in
    let n = l.places in
    elim (cases_lt s 8) [
      | inl h ↦ c.loop-source.invariant.1 s (omega arith)
      | inr h ↦ omega (arith, lows_past l.sources s (omega arith), lows_past b.sources s (omega arith), get_or_past c.args.low s 0 (omega arith))
    ]

pub returns-clause-pending : goal.returns-clause-pending
returns-clause-pending c =
    let b = c.args.self.now in
    let m = b.places in
    c.loop-source.invariant.2 ∙ raised_all c.args.low (inbox_of b) c.loop-source.source (λ s k h. pending_source b.sources s k (omega arith))
