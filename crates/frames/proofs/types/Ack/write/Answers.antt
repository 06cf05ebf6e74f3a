use Rattle.std.proofs.Common.{◌≡◌, ℕ, ◌+◌, ◌*◌, List, [], ◌∷◌, ◌++◌, length, take, drop, sym, ap, ◌∙◌, subst, arith}
use lib.Seq.{paste}
use Rattle.std.specs.List.{flat_map}
use Rattle.std.proofs.lemmas.List.{take_all}
use Rattle.frames.specs.Bounds.{after}
use Rattle.frames.specs.Values.{Name}
use Rattle.frames.specs.Tables.{items}
use Rattle.frames.specs.Types.{name_of, names_of}
use Rattle.frames.specs.Written.{word_then, name_bytes}
use Rattle.frames.proofs.Fronts.{two_parts, names_step, length_names}
use Rattle.frames.proofs.Naming.{named_at, length-items, length-names_of}
use Rattle.frames.proofs.types.Ack.write.Goals as goal

pub loop-i-preserved : goal.loop-i-preserved
loop-i-preserved c =
    let ns = c.args.self.now.names in
    let i = c.loop-i.i in
    let l = length-names_of ns in
    let q = length-items ns in
    let h = ap length c.as_slice-name-items.ensures in
    let x = named_at (items ns) _ i c.name-item.result c.name-item.result c.as_slice-name-items.ensures c.name-item.is c.loop-i-test.true in
    let w = rw c.to_bytes.ensures at c.put-in-loop-i.ensures in
    names_step _ _ _ (names_of ns) i (name_of c.name-item.result) (omega arith) (omega arith) c.loop-i.invariant
    (w ∙ ap (λ (y : Name). paste c.loop-i.out (8 + 6 * i) (name_bytes y) 6) x)

pub returns : goal.returns
returns c =
    let a = c.args.self.now in
    let ns = a.names in
    let out = c.args.out.now in
    let front : ℕ → List ℕ = λ z. 2 ∷ word_then a.stamp (a.issuer ∷ after c.args.size.heads a.issuer ∷ z ∷ []) in
    let e : c.put.new.out ≡ front ns.count ++ drop 8 out = simp (c.put.ensures, c.to_be_bytes.ensures, c.after-next.ensures) in
    let l = length-names_of ns in
    let q = length-items ns in
    let h = ap length c.as_slice-name-items.ensures in
    let k = length_names (names_of ns) in
    let i : c.loop-i.i ≡ ns.count = omega arith in
    let t : take c.loop-i.i (names_of ns) ≡ names_of ns = take_all _ (names_of ns) (omega arith) in
    let m : 6 * c.loop-i.i ≡ length (flat_map name_bytes (names_of ns)) = omega arith in
    let p : c.loop-i.out ≡ paste c.put.new.out 8 (flat_map name_bytes (names_of ns)) (length (flat_map name_bytes (names_of ns))) = rw (t, m) at c.loop-i.invariant in
    subst
    (λ z. c.loop-i.out ≡ (front z ++ flat_map name_bytes (names_of ns)) ++ drop (length (front z ++ flat_map name_bytes (names_of ns))) out)
    (sym l)
    (two_parts out _ _ (front ns.count) (flat_map name_bytes (names_of ns)) e p)
