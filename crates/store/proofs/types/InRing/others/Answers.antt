use Rattle.std.proofs.Common.{◌≡◌, length, ◌∙◌, arith, rules, tests}
use Rattle.std.specs.List.{filter, range_with_len}
use Rattle.std.proofs.lemmas.Iterator.{YieldsList-from_range}
use Rattle.std.proofs.lemmas.Iterator.Consumers.{count_from_yields_List, YieldsList-from_filter}
use Rattle.store.proofs.Holding.{other, others_list, others_fewer}
use Rattle.store.proofs.types.InRing.others.Goals as goal

counted : (c : goal.After-count) → c.count.result ≡ length (filter (other c.args.self.me c.args.issued) (range_with_len 0 c.args.self.size.heads))
counted c = count_from_yields_List _ _ c.count.ensures.ran (YieldsList-from_filter _ (other c.args.self.me c.args.issued) (YieldsList-from_range 0 c.args.self.size.heads c.args.self.size.heads (cc) (omega arith)) c.filter.ensures.closure (λ x b q k. search (rules, tests)))

pub returns-clause-value : goal.returns-clause-value
returns-clause-value c is t = counted c ∙ others_list c.args.self.me c.args.issued c.args.self.size.heads is (omega arith) t

pub returns-clause-fewer : goal.returns-clause-fewer
returns-clause-fewer c h = omega (arith, counted c, others_fewer c.args.self.me c.args.issued c.args.self.size.heads h)
