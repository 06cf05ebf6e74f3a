-- Names and bodies of the code, by how many there are.
use Rattle.std.proofs.Common.{◌≡◌, ℕ, ◌+◌, ◌-◌, ◌<◌, Bool, true, false, cond, List, map, length, get_or, drop, set, replicate, sym, ap, ◌∙◌, arith}
use Rattle.std.proofs.lemmas.List.{length-take-le, length-map, get_or-map, drop-set-lt, drop-drop, drop-map, drop-replicate}
use Rattle.frames.specs.declared.table.Table.{Table}
use Rattle.frames.specs.declared.types.Name.{Name as CName}
use Rattle.frames.specs.declared.types.Body.{Body}
use Rattle.frames.specs.Tables.{items}
use Rattle.frames.specs.Types.{name_of, names_of, body_of, spare, NamesRest}

pub length-items : {T : Type 0} {N : ℕ} (t : Table T N) → length (items t) ≡ t.count
length-items t =
    let f = t.filled in
    let g = t.within in
    length-take-le t.count t.places (omega arith)

pub length-names_of : (ns : Table CName 4) → length (names_of ns) ≡ ns.count
length-names_of ns = length-map (items ns) name_of ∙ length-items ns

pub length-body_of : (b : Body) → length (body_of b) ≡ b.len
length-body_of b =
    let f = b.places in
    let g = b.within in
    length-take-le b.len b.bytes (omega arith)

-- the places that are left after one more name
pub rest_more : (ns : List CName) (k : ℕ) (x : CName) → map name_of (drop k ns) ≡ replicate (4 - k) spare → map name_of (drop (k + 1) (set ns k x)) ≡ replicate (4 - (k + 1)) spare
rest_more ns k x e =
    let h : k < k + 1 = omega arith in
    let s : 4 - k - 1 ≡ 4 - (k + 1) = omega arith in
    ap (map name_of) (drop-set-lt (k + 1) ns k x h ∙ sym (drop-drop 1 k ns))
    ∙ (sym (drop-map name_of 1 (drop k ns)) ∙ (ap (drop 1) e ∙ (drop-replicate 1 (4 - k) spare ∙ ap (λ m. replicate m spare) s)))

-- a push, whether or not there was room, leaves the unused places as they are
pub rest_pushed : (ns ms : Table CName 4) (x : CName) (room : Bool) → ms.places ≡ cond room (set ns.places ns.count x) ns.places → ms.count ≡ cond room (ns.count + 1) ns.count → NamesRest ns → NamesRest ms
rest_pushed ns ms x true p q e = rw (p, q) (rest_more ns.places ns.count x e)
rest_pushed ns ms x false p q e = rw (p, q) e

-- the name at a place, as it is meant
pub named_at : (xs ys : List CName) (i : ℕ) (d x : CName) → ys ≡ xs → x ≡ get_or ys i d → i < length ys → name_of x ≡ get_or (map name_of xs) i (name_of d)
named_at xs ys i d x e f h = ap name_of f ∙ (sym (get_or-map name_of ys i d (name_of d) h) ∙ ap (λ zs. get_or (map name_of zs) i (name_of d)) e)
