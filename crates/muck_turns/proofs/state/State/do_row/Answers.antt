use Rattle.std.proofs.Common.{rules, ◌≡◌, Ok, Err}
use Rattle.muf_frame.specs.declared.fault.PrimFault.TheVariants.{Fault}
use Rattle.muck_turns.proofs.Deeds.{done_so, passes_so, fails_so, rejoins_so}
use Rattle.muck_turns.proofs.state.State.do_row.Goals as goal

pub passed-requires : goal.passed-requires
passed-requires c =
    let is : c.apply.result ≡ Ok c.in-Ok.field-0 = search rules in
    passes_so _ c.take_apart-programs.result.0 c.take_apart-programs.result.1 c.apply.new.frame c.args.self.now c.apply.new.self c.args.running c.apply.result c.in-Ok.field-0 c.take_apart-programs.ensures.apart c.apply.ensures is c.requires.at

pub returns-in-Ok : goal.returns-in-Ok
returns-in-Ok c =
    let is : c.apply.result ≡ Ok c.in-Ok.field-0 = search rules in
    done_so c.args.agent c.args.prim c.args.actor c.take_apart-programs.result.0 c.take_apart-programs.result.1 c.apply.new.frame c.args.self.now c.apply.new.self c.args.running c.passed.result c.apply.result c.in-Ok.field-0 c.requires.actor c.take_apart-programs.ensures.apart c.take_apart-programs.ensures.shows c.apply.ensures is c.passed.ensures

pub rejoin-requires : goal.rejoin-requires
rejoin-requires c =
    let is : c.apply.result ≡ Err (Fault c.in-Err-Fault.fault) = search rules in
    rejoins_so _ c.take_apart-programs.result.0 c.take_apart-programs.result.1 c.apply.new.frame c.args.self.now c.apply.new.self c.args.running c.apply.result c.in-Err-Fault.fault c.take_apart-programs.ensures.apart c.apply.ensures is

pub returns-in-Err-Fault : goal.returns-in-Err-Fault
returns-in-Err-Fault c =
    let is : c.apply.result ≡ Err (Fault c.in-Err-Fault.fault) = search rules in
    fails_so c.args.agent c.args.prim c.args.actor c.take_apart-programs.result.0 c.take_apart-programs.result.1 c.apply.new.frame c.args.self.now c.apply.new.self c.args.running c.rejoin.result c.apply.result c.in-Err-Fault.fault c.requires.actor c.take_apart-programs.ensures.apart c.take_apart-programs.ensures.shows c.apply.ensures is c.rejoin.ensures
