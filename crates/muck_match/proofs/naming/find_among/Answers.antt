use Rattle.std.proofs.Common.{◌∙◌, ap, sym, rules}
use Rattle.muck_match.specs.Naming.{one_of}
use Rattle.muck_match.proofs.Listed.{starred_found}
use Rattle.muck_match.proofs.naming.find_among.Goals as goal

pub returns-in-Some : goal.returns-in-Some
returns-in-Some g c = c.one_of.ensures ∙ ap one_of c.player_among.ensures ∙ sym (starred_found _ c.args.player c.args.text.now c.in-Some.name.now (search (rules, c.behind_star.ensures, c.in-Some.is)))
