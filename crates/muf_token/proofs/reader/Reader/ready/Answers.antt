use Rattle.std.proofs.Common.{refl, ap, sym, ◌∙◌}
use Rattle.muf_token.proofs.Renewals.{ready_first}
use Rattle.muf_token.proofs.reader.Reader.ready.Goals as goal

pub returns : goal.returns
returns g c = (
  ready_first (g.I.Includes.lent c.args.include.now) c.args.object c.in-Some.list c.args.self.now.definitions c.lend_all.new.self (sym c.in_ok-list.ensures ∙ c.in-Some.is) c.requires (sym c.knows.ensures ∙ c.if-knows.false)
      (rw c.as_slice.ensures at c.in_ok-lend_all.ensures.lents) c.in_ok-lend_all.ensures.own c.in_ok-lend_all.ensures.one (ap (λ m. m.entries) c.in_ok-lend_all.ensures.stamps) c.in_ok-lend_all.ensures.clock,
  refl,
  refl,
)
