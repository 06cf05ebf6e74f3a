use Rattle.std.proofs.Common.{◌≡◌, ℕ, List, [], ◌∷◌, ◌++◌, length, drop, sym, subst}
use Rattle.frames.specs.Types.{body_of, name_of}
use Rattle.frames.specs.Written.{name_then}
use Rattle.frames.proofs.Fronts.{two_parts}
use Rattle.frames.proofs.Naming.{length-body_of}
use Rattle.frames.proofs.types.Message.write.Goals as goal

pub returns : goal.returns
returns c n =
    let m = c.args.self.now in
    let b = m.body in
    let out = c.args.out.now in
    let front : ℕ → List ℕ = λ z. 1 ∷ name_then (name_of m.name) (z ∷ []) in
    let e : c.put.new.out ≡ front b.len ++ drop 8 out = simp (c.put.ensures, c.to_bytes.ensures) in
    subst
    (λ z. c.put-2.new.out ≡ (front z ++ body_of b) ++ drop (length (front z ++ body_of b)) out)
    (sym (length-body_of b))
    (two_parts out _ _ (front b.len) (body_of b) e (rw c.as_slice.ensures at c.put-2.ensures))
