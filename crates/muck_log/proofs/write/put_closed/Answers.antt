use Rattle.std.proofs.Common.{◌≡◌, ◌≤◌, ◌+◌, ℕ, List, length, false, inl, sym, subst, arith}
use Rattle.muck_disk.specs.Images.{Torn, bytes_written}
use Rattle.muck_log.specs.Store.{IsDone, MayBe, must_close}
use Rattle.muck_log.proofs.Moments.{joined, weaker}
use Rattle.muck_log.proofs.Writing.{IsStaged, closed_already, behind, staged, gate, done}
use Rattle.muck_log.proofs.write.put_closed.Goals as goal

staged_at : (place : ℕ) (tail z whole : List ℕ) → must_close place z ≡ false → whole ≡ bytes_written z (place + 1) tail → IsStaged place tail z whole
staged_at place tail z whole shut is = subst (IsStaged place tail z) (sym is) (staged place tail z z (closed_already place z shut))

first_torn : (place : ℕ) (tail z c : List ℕ) → must_close place z ≡ false → Torn (place + 1) (length tail) z c → MayBe place tail z c
first_torn place tail z c shut torn = inl (behind place (length tail) z z c (closed_already place z shut) torn)

there : (place : ℕ) (z : List ℕ) → must_close place z ≡ false → place + 1 ≤ length z
there place z shut = let c = closed_already place z shut in omega (arith, c.there)

pub write_synced-requires-clause-within : goal.write_synced-requires-clause-within
write_synced-requires-clause-within g c = λ t. there c.args.place (g.D.Disk.seen c.args.disk.now) (c.requires.shut t)

pub returns-in_err-write_synced-clause-any : goal.returns-in_err-write_synced-clause-any
returns-in_err-write_synced-clause-any g c = λ t.
    let z = g.D.Disk.seen c.args.disk.now in
    weaker g.D.Disk.moment g.D.Disk.images c.args.disk.now c.write_synced.new.disk (Torn (c.args.place + 1) (length c.args.tail.now) z) (MayBe c.args.place c.args.tail.now z)
    (c.write_synced.ensures.any t) (λ x torn. first_torn c.args.place c.args.tail.now z x (c.requires.shut t) torn)

pub write_synced-requires-2-clause-within : goal.write_synced-requires-2-clause-within
write_synced-requires-2-clause-within g c = λ later.
    let t = later in
    let s = staged_at c.args.place c.args.tail.now (g.D.Disk.seen c.args.disk.now) (g.D.Disk.seen c.write_synced.new.disk) (c.requires.shut t) (c.in_ok-write_synced.ensures.written t) in
    omega (arith, s.closed.there)

pub returns-in_err-write_synced-2-clause-any : goal.returns-in_err-write_synced-2-clause-any
returns-in_err-write_synced-2-clause-any g c = λ t.
    let z = g.D.Disk.seen c.args.disk.now in
    let mid = g.D.Disk.seen c.write_synced.new.disk in
    let place = c.args.place in
    let tail = c.args.tail.now in
    let s = staged_at place tail z mid (c.requires.shut t) (c.in_ok-write_synced.ensures.written t) in
    joined g.D.Disk.moment g.D.Disk.images c.args.disk.now c.write_synced.new.disk c.write_synced-2.new.disk (Torn (place + 1) (length tail) z) (Torn place 1 mid) (MayBe place tail z)
    (c.write_synced.ensures.any t) (c.write_synced-2.ensures.any t)
    (λ x torn. first_torn place tail z x (c.requires.shut t) torn) (λ x torn. gate place tail z mid x s torn)

pub returns-clause-done : goal.returns-clause-done
returns-clause-done g c = λ t.
    let z = g.D.Disk.seen c.args.disk.now in
    let mid = g.D.Disk.seen c.write_synced.new.disk in
    let s = staged_at c.args.place c.args.tail.now z mid (c.requires.shut t) (c.in_ok-write_synced.ensures.written t) in
    subst (IsDone c.args.place c.args.tail.now z) (sym (c.in_ok-write_synced-2.ensures.written t)) (done c.args.place c.args.tail.now z mid s)

pub returns-clause-any : goal.returns-clause-any
returns-clause-any g c = λ t.
    let z = g.D.Disk.seen c.args.disk.now in
    let mid = g.D.Disk.seen c.write_synced.new.disk in
    let place = c.args.place in
    let tail = c.args.tail.now in
    let s = staged_at place tail z mid (c.requires.shut t) (c.in_ok-write_synced.ensures.written t) in
    joined g.D.Disk.moment g.D.Disk.images c.args.disk.now c.write_synced.new.disk c.write_synced-2.new.disk (Torn (place + 1) (length tail) z) (Torn place 1 mid) (MayBe place tail z)
    (c.write_synced.ensures.any t) (c.write_synced-2.ensures.any t)
    (λ x torn. first_torn place tail z x (c.requires.shut t) torn) (λ x torn. gate place tail z mid x s torn)
