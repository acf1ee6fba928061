use Rattle.std.proofs.Common.{◌≡◌, List, ℕ, Bool, ◌∙◌, ap, subst}
use Rattle.muck_log.specs.File.{FileReading, gate_at, begin, run}
use Rattle.muck_log.specs.Store.{pick}
use Rattle.muck_log.specs.inner.Mount.{IsLoaded}
use Rattle.muck_log.proofs.Mounting.{found, load_fault, still_only, quiet_too, mounted_load, mounted_empty}
use Rattle.muck_log.proofs.mount.mount_synced.Goals as goal

same_reads : (r : FileReading) (at : Bool) (g : ℕ) (a b c d : List ℕ) → c ≡ a → d ≡ b → r ≡ run (gate_at 0 (begin g)) (pick at c d) → r ≡ run (gate_at 0 (begin g)) (pick at a b)
same_reads r at g a b c d e f is = is ∙ ap (λ x. run (gate_at 0 (begin g)) (pick at x d)) e ∙ ap (λ y. run (gate_at 0 (begin g)) (pick at a y)) f

pub returns-in-Damaged-clause-err : goal.returns-in-Damaged-clause-err
returns-in-Damaged-clause-err g c = λ t.
    found _ c.in_ok-a.a.first c.in_ok-b.b.first (g.D.Disk.seen c.args.first.now) (g.D.Disk.seen c.args.second.now) c.in-Damaged.ensures (c.in_ok-a.ensures.look t).first (c.in_ok-b.ensures.look t).first

pub returns-in_ok-empty-in-Empty-clause-ok : goal.returns-in_ok-empty-in-Empty-clause-ok
returns-in_ok-empty-in-Empty-clause-ok g c = λ t.
    let la = c.in_ok-a.ensures.look t in
    let lb = c.in_ok-b.ensures.look t in
    mounted_empty g.D.Disk.seen g.D.Disk.moment g.D.Disk.images c.args.first.now c.args.second.now c.read_first.new.disk c.read_first-2.new.disk c.in_ok-a.a c.in_ok-b.b c.args.most c.in_ok-empty-in-Empty.field-0
    (c.read_first.ensures.seen t) (c.read_first-2.ensures.seen t)
    (still_only g.D.Disk.seen g.D.Disk.moment g.D.Disk.images c.args.first.now c.read_first.new.disk (c.read_first.ensures.any t) (c.requires.first_durable t) (c.read_first.ensures.seen t))
    (still_only g.D.Disk.seen g.D.Disk.moment g.D.Disk.images c.args.second.now c.read_first-2.new.disk (c.read_first-2.ensures.any t) (c.requires.second_durable t) (c.read_first-2.ensures.seen t))
    la lb (found _ c.in_ok-a.a.first c.in_ok-b.b.first (g.D.Disk.seen c.args.first.now) (g.D.Disk.seen c.args.second.now) c.in-Empty.ensures la.first lb.first)
    c.in_ok-empty-in-Empty.ensures.empty

pub returns-in-Err-clause-err : goal.returns-in-Err-clause-err
returns-in-Err-clause-err g c = λ t.
    let a = g.D.Disk.seen c.args.first.now in
    let b = g.D.Disk.seen c.args.second.now in
    load_fault a b c.in-Load.at c.in-Load.generation c.in_ok-reader-in-Load.reader c.in-Err.fault
    (found _ c.in_ok-a.a.first c.in_ok-b.b.first a b c.in-Load.ensures (c.in_ok-a.ensures.look t).first (c.in_ok-b.ensures.look t).first)
    (same_reads c.in_ok-reader-in-Load.reader c.in-Load.at c.in-Load.generation a b (g.D.Disk.seen c.read_first.new.disk) (g.D.Disk.seen c.read_first-2.new.disk) (c.read_first.ensures.seen t) (c.read_first-2.ensures.seen t) (c.in_ok-reader-in-Load.ensures.reads t))
    c.in-Err.ensures.err

pub returns-in-Ok-clause-ok : goal.returns-in-Ok-clause-ok
returns-in-Ok-clause-ok g c = λ t.
    let a = g.D.Disk.seen c.args.first.now in
    let b = g.D.Disk.seen c.args.second.now in
    let la = c.in_ok-a.ensures.look t in
    let lb = c.in_ok-b.ensures.look t in
    let see = g.D.Disk.seen in
    let moment = g.D.Disk.moment in
    let images = g.D.Disk.images in
    let first_seen = c.read_chosen.ensures.first_seen t ∙ c.read_first.ensures.seen t in
    let second_seen = c.read_chosen.ensures.second_seen t ∙ c.read_first-2.ensures.seen t in
    mounted_load see moment images c.args.first.now c.args.second.now c.read_chosen.new.first c.read_chosen.new.second c.in_ok-a.a c.in_ok-b.b c.in-Load.at c.in-Load.generation c.args.most c.in-Ok.log c.in_ok-reader-in-Load.reader
    first_seen second_seen
    (still_only see moment images c.args.first.now c.read_chosen.new.first (quiet_too see moment images c.args.first.now c.read_first.new.disk c.read_chosen.new.first (c.read_first.ensures.any t) (c.read_chosen.ensures.first_any t)) (c.requires.first_durable t) first_seen)
    (still_only see moment images c.args.second.now c.read_chosen.new.second (quiet_too see moment images c.args.second.now c.read_first-2.new.disk c.read_chosen.new.second (c.read_first-2.ensures.any t) (c.read_chosen.ensures.second_any t)) (c.requires.second_durable t) second_seen)
    la lb
    (found _ c.in_ok-a.a.first c.in_ok-b.b.first a b c.in-Load.ensures la.first lb.first)
    (same_reads c.in_ok-reader-in-Load.reader c.in-Load.at c.in-Load.generation a b (see c.read_first.new.disk) (see c.read_first-2.new.disk) (c.read_first.ensures.seen t) (c.read_first-2.ensures.seen t) (c.in_ok-reader-in-Load.ensures.reads t))
    (subst (λ k. IsLoaded c.in_ok-reader-in-Load.reader c.in-Load.at k c.args.most c.in-Ok.log) c.other_of-other_close.ensures c.in-Ok.ensures.ok)
