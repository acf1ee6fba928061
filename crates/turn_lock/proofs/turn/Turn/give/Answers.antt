use Rattle.std.proofs.Common.{rules, ap}
use Rattle.turn_lock.proofs.Moves.{passes}
use Rattle.turn_lock.proofs.turn.Turn.give.Goals as goal

pub fetch_add-turn-requires : goal.fetch_add-turn-requires
fetch_add-turn-requires g c = (search rules, search rules, passes g.T.Story.history g.T.Story.party g.T.Story.start g.T.Story.allowed _ _ _ c.requires.turn.0 c.args.held.state c.requires.entry.0 (search rules) (search rules) (search rules) (search rules) (search rules) c.requires.entry.3)

pub returns-clause-own : goal.returns-clause-own
returns-clause-own g c =
    let done = c.fetch_add-turn.ensures.2 c.requires.turn.0 c.args.held.state c.requires.entry.0 (search rules) (search rules) (search rules) (search rules) (search rules) c.requires.entry.3 in (search rules, search rules, done.1)

pub returns-clause-idle : goal.returns-clause-idle
returns-clause-idle g c =
    let done = c.fetch_add-turn.ensures.2 c.requires.turn.0 c.args.held.state c.requires.entry.0 (search rules) (search rules) (search rules) (search rules) (search rules) c.requires.entry.3 in ap (λ v. v.place) done.0

pub returns-clause-seen : goal.returns-clause-seen
returns-clause-seen g c =
    let done = c.fetch_add-turn.ensures.2 c.requires.turn.0 c.args.held.state c.requires.entry.0 (search rules) (search rules) (search rules) (search rules) (search rules) c.requires.entry.3 in
    let seen = ap (λ v. v.seen) done.0 in
    let is = c.requires.entry.1 in search rules

pub returns-clause-mine : goal.returns-clause-mine
returns-clause-mine g c e is whose may =
    let done = c.fetch_add-turn.ensures.2 c.requires.turn.0 c.args.held.state e (search rules) (search rules) (search rules) (search rules) (search rules) may in
    let own = ap (λ v. v.own) done.0 in search rules

pub returns-clause-same : goal.returns-clause-same
returns-clause-same g c =
    let done = c.fetch_add-turn.ensures.2 c.requires.turn.0 c.args.held.state c.requires.entry.0 (search rules) (search rules) (search rules) (search rules) (search rules) c.requires.entry.3 in
    let party = ap (λ v. v.party) done.0 in let root = ap (λ v. v.root) done.0 in let given = ap (λ v. v.given) done.0 in let joined = ap (λ v. v.joined) done.0 in
    (search rules, search rules, search rules, search rules)
