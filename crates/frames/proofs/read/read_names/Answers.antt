use Rattle.std.proofs.Common.{◌≡◌, true, [], ◌∷◌, ◌++◌, map, length, sym, ap, ◌∙◌, arith}
use Rattle.std.proofs.lemmas.List.{get_or-map, length-map, map-append, length-take-le}
use Rattle.std.proofs.lemmas.Result.{err_from_is_err_and}
use Rattle.std.proofs.lemmas.Bool.{cond-true, lt-ltb}
use Rattle.frames.specs.Made.{name_for}
use Rattle.frames.specs.Tables.{items}
use Rattle.frames.specs.Types.{name_of, names_of}
use Rattle.frames.specs.Reading.{name_in}
use Rattle.frames.proofs.Naming.{length-names_of, rest_pushed}
use Rattle.frames.proofs.Steps.{read_stops, read_more}
use Rattle.frames.proofs.read.read_names.Goals as goal

pub returns-in_err-read_name-clause-answer : goal.returns-in_err-read_name-clause-answer
returns-in_err-read_name-clause-answer c =
    let p = err_from_is_err_and c.from_residual.result c.from_residual.ensures.1 in
    let ps = c.args.places.now in
    let i = c.loop-place.place-index in
    let l = length-map ps name_in in
    rw (p.1, p.2) (read_stops c.args.size.heads i (map name_in ps) (name_in []) _ (omega arith) (c.in_err-read_name.ensures ∙ ap (name_for c.args.size.heads) (sym (get_or-map name_in ps i [] (name_in []) c.loop-place-test.true))))

pub loop-place-preserved : goal.loop-place-preserved
loop-place-preserved c =
    let n = c.args.size.heads in
    let ps = c.args.places.now in
    let i = c.loop-place.place-index in
    let ns = c.loop-place.names in
    let x = c.in_ok-read_name.field-0 in
    let l = length-map ps name_in in
    let k = length-names_of ns in
    let m = read_more n i (map name_in ps) (names_of ns) (name_of x) (name_in []) (omega arith) c.loop-place.invariant.0 c.loop-place.invariant.1
    (c.in_ok-read_name.ensures ∙ ap (name_for n) (sym (get_or-map name_in ps i [] (name_in []) c.loop-place-test.true))) in
    let t : length (names_of ns) ≡ i = ap length c.loop-place.invariant.0 ∙ length-take-le i (map name_in ps) (omega arith) in
    let r : c.push.result ≡ true = c.push.ensures.answer ∙ lt-ltb ns.count 4 (omega arith) in
    let a : names_of c.push.new.self ≡ names_of ns ++ name_of x ∷ [] = ap (map name_of) (c.push.ensures.after ∙ cond-true c.push.result (items ns ++ x ∷ []) (items ns) r) ∙ map-append name_of (items ns) (x ∷ []) in
    (a ∙ m.0, m.1, rest_pushed ns c.push.new.self x c.push.result c.push.ensures.places c.push.ensures.count c.loop-place.invariant.2)
