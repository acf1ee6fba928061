use Rattle.std.proofs.Common.{refl, sym, ap, ◌∙◌, inl, inr, rules, ◌≡◌, ℕ, ◌==◌, length, vec_len}
use Rattle.muck_laws.proofs.Lists.{empty_of}
use Rattle.muck_links.specs.Sessions.{LinksTold}
use Rattle.muck_porter.specs.inner.Desks.{stand}
use Rattle.muck_porter.proofs.Going.{free_then}
use Rattle.muck_porter.proofs.Linking.{came_goes, turned_away, same_goes, over_goes}
use Rattle.muck_porter.proofs.desk.Desk.lets_in.Goals as goal

pub returns-in-Ok : goal.returns-in-Ok
returns-in-Ok g c =
    let d = stand g.L.Links.tells g.L.Links.told g.L.Links.listening g.C.Clock.answers c.args.self.now in
    let e = c.in-Got.ensures in
    came_goes d _ _ _ e.tells e.later (λ t. ap (λ (x : LinksTold). x.ports) (e.told t).0) c.in-Got.d c.requires.nobody e.told c.requires.stands c.in-Ok.peer c.in-Ok.ensures

pub returns-in-Err : goal.returns-in-Err
returns-in-Err g c =
    let d = stand g.L.Links.tells g.L.Links.told g.L.Links.listening g.C.Clock.answers c.args.self.now in
    let e = c.in-Got.ensures in
    turned_away d _ _ _ e.tells e.later (λ t. ap (λ (x : LinksTold). x.ports) (e.told t).0) c.in-Got.d c.requires.nobody e.told _ _ c.dies.ensures.goes c.dies.ensures.last

pub returns-in-NotYet : goal.returns-in-NotYet
returns-in-NotYet g c =
    let d = stand g.L.Links.tells g.L.Links.told g.L.Links.listening g.C.Clock.answers c.args.self.now in
    let e = c.in-NotYet.ensures in
    same_goes d _ _ _ e.tells e.later (λ t. ap (λ (x : LinksTold). x.ports) (e.told t)) c.requires.stands d.broke (λ b. inl b) e.told

pub returns-then-not-is_empty : goal.returns-then-not-is_empty
returns-then-not-is_empty g c =
    let d = stand g.L.Links.tells g.L.Links.told g.L.Links.listening g.C.Clock.answers c.args.self.now in
    let e = c.in-Ended.ensures in
    over_goes d _ _ _ e.tells e.later (λ t. ap (λ (x : LinksTold). x.ports) (e.told t)) c.requires.stands e.told

pub stops-requires : goal.stops-requires
stops-requires g c =
    let e = c.in-Ended.ensures in
    let count : vec_len c.args.self.now.peers.now ≡ length c.args.self.now.peers.now.items = search rules in
    (c.requires.stands, (λ t. inr (ap (λ (x : LinksTold). x.over) (e.told (sym e.tells ∙ t)), empty_of c.args.self.now.peers.now.items c.is_empty.result c.if-not-is_empty.false (c.is_empty.ensures ∙ ap (λ (n : ℕ). n == 0) count))))

pub returns-else-not-is_empty : goal.returns-else-not-is_empty
returns-else-not-is_empty g c =
    let d = stand g.L.Links.tells g.L.Links.told g.L.Links.listening g.C.Clock.answers c.args.self.now in
    let e = c.in-Ended.ensures in
    free_then _ _ _ _ (over_goes d _ _ _ e.tells e.later (λ t. ap (λ (x : LinksTold). x.ports) (e.told t)) c.requires.stands e.told) c.stops.ensures

pub stops-requires-in-Fault : goal.stops-requires-in-Fault
stops-requires-in-Fault g c = (c.requires.stands, (λ t. inl refl))

pub returns-in-Fault : goal.returns-in-Fault
returns-in-Fault g c =
    let d = stand g.L.Links.tells g.L.Links.told g.L.Links.listening g.C.Clock.answers c.args.self.now in
    let e = c.in-Fault.ensures in
    free_then _ _ _ _ (same_goes d _ _ _ e.tells e.later (λ t. ap (λ (x : LinksTold). x.ports) (e.told t)) c.requires.stands _ (λ b. inr (e.fault refl)) e.told) c.stops-in-Fault.ensures

pub returns-in-NoMemory : goal.returns-in-NoMemory
returns-in-NoMemory g c =
    let d = stand g.L.Links.tells g.L.Links.told g.L.Links.listening g.C.Clock.answers c.args.self.now in
    let e = c.in-NoMemory.ensures in
    free_then _ _ _ _ (same_goes d _ _ _ e.tells e.later (λ t. ap (λ (x : LinksTold). x.ports) (e.told t)) c.requires.stands d.broke (λ b. inl b) e.told) c.dies-in-NoMemory.ensures.goes
