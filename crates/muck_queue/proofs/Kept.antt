-- Each change of a queue keeps what a queue keeps.
use Rattle.std.proofs.Common.{◌≡◌, ℕ, suc, ℤ, pos, ◌+◌, ◌+ℤ◌, ◌≤◌, ◌<◌, Bool, true, false, not, List, [], ◌∷◌, ◌++◌, length, refl, sym, ◌∙◌, arith, if◌then◌else◌}
use Rattle.std.specs.Prelude.{map, nat_le}
use Rattle.std.specs.List.{filter}
use Rattle.std.proofs.lemmas.Bool.{and_parts, not-true}
use Rattle.std.proofs.lemmas.Int.{ints}
use Rattle.std.proofs.lemmas.List.{length_push}
use Rattle.muck_model.specs.declared.dbref.Dbref.{Dbref}
use Rattle.muck_queue.specs.declared.claim.Claim.{Claim}
use Rattle.muck_queue.specs.declared.process.Process.{Process}
use Rattle.muck_queue.specs.Queues.{changed_first, has_pid, has_trigger, is_awaiting, is_claimed, is_process_due, is_on, is_reading, process_numbered, without_all, without_first, without_trigger}
use Rattle.muck_queue.specs.inner.Leading.{Leads}
use Rattle.muck_queue.specs.inner.Numbered.{Rises}
use Rattle.muck_queue.specs.inner.Room.{Stands, unclaimed}
use Rattle.muck_queue.proofs.Changed.{KeepsNumber}
use Rattle.muck_queue.proofs.Numbered.{rises_added, rises_kept, rises_without, rises_changed, rises_cleared}
use Rattle.muck_queue.proofs.Room.{unclaimed_added, unclaimed_kept, unclaimed_without, unclaimed_changed, unclaimed_cleared, unclaimed_claimed, room_left}

pub stands_none : (room : ℕ) (cs : List Claim) (ps : List Process) → cs ≡ [] → ps ≡ [] → Stands room (pos 0) cs ps
stands_none room cs ps e f = rw (e, f) (record { numbered = omega (arith, ints); room = omega arith })

-- with more room
pub stands_wider : (room more : ℕ) (last : ℤ) (cs new : List Claim) (ps : List Process) → Stands room last cs ps → new ≡ cs → room ≤ more → Stands more last new ps
stands_wider room more last cs new ps h e l = rw e (record { numbered = h.numbered; room = (let most = h.room in omega arith) })

pub stands_added : (p : Process) (room more : ℕ) (last next : ℤ) (cs same : List Claim) (ps new : List Process) → Stands room last cs ps → same ≡ cs → length cs + suc (length ps) ≤ more →
    next ≡ last +ℤ pos 1 → new ≡ ps ++ process_numbered next p ∷ [] → Stands more next same new
stands_added p room more last next cs same ps new h s l n e =
    let most = unclaimed_added cs (process_numbered (last +ℤ pos 1) p) ps in
    rw (s, e, n) (record { numbered = rises_added (pos 0) last ps p h.numbered; room = omega arith })

-- with as many processes to be claimed, or fewer
stands_fewer : (room : ℕ) (last : ℤ) (cs : List Claim) (ps new : List Process) → Stands room last cs ps → Rises (pos 0) last new → unclaimed cs new ≤ unclaimed cs ps → Stands room last cs new
stands_fewer room last cs ps new h r l = record { numbered = r; room = (let most = h.room in omega arith) }

pub stands_kept : (test : Process → Bool) (room : ℕ) (last : ℤ) (cs : List Claim) (ps new : List Process) → Stands room last cs ps → new ≡ without_all test ps → Stands room last cs new
stands_kept test room last cs ps new h e =
    rw e (stands_fewer room last cs ps _ h (rises_kept (λ p. not (test p)) (pos 0) last ps h.numbered) (unclaimed_kept cs (λ p. not (test p)) ps))

pub stands_without : (pid : ℤ) (room : ℕ) (last : ℤ) (cs : List Claim) (ps new : List Process) → Stands room last cs ps → new ≡ without_first (has_pid pid) ps → Stands room last cs new
stands_without pid room last cs ps new h e =
    rw e (stands_fewer room last cs ps _ h (rises_without (has_pid pid) (pos 0) last ps h.numbered) (unclaimed_without cs (has_pid pid) ps))

pub stands_changed : (pid : ℤ) (f : Process → Process) → KeepsNumber f → (room : ℕ) (last : ℤ) (cs : List Claim) (ps new : List Process) → Stands room last cs ps → new ≡ changed_first (has_pid pid) f ps → Stands room last cs new
stands_changed pid f k room last cs ps new h e =
    let same = unclaimed_changed cs (has_pid pid) f k ps in
    rw e (stands_fewer room last cs ps _ h (rises_changed (has_pid pid) f k (pos 0) last ps h.numbered) (omega arith))

pub stands_cleared : (trigger : Dbref) (room : ℕ) (last : ℤ) (cs : List Claim) (ps new : List Process) → Stands room last cs ps → new ≡ map (λ p. if has_trigger trigger p then without_trigger p else p) ps → Stands room last cs new
stands_cleared trigger room last cs ps new h e =
    let same = unclaimed_cleared cs trigger ps in
    rw e (stands_fewer room last cs ps _ h (rises_cleared trigger (pos 0) last ps h.numbered) (omega arith))

-- Claims.

-- a process that is due is claimed by nobody
unclaimed_due : (moment : ℕ) (cs : List Claim) (p : Process) → is_process_due moment cs p ≡ true → is_claimed p.number cs ≡ false
unclaimed_due moment cs p e =
    not-true _ (and_parts (not (is_awaiting p)) _ (and_parts (not (is_reading p)) _ (and_parts (nat_le p.due moment) _ e).1).1).1

-- a claim on the process that is to go on next takes its room
fewer_left : (moment : ℕ) (c : Claim) (cs : List Claim) (ps : List Process) (pid : ℤ) → c.number ≡ pid → Leads moment cs ps pid → suc (unclaimed (cs ++ c ∷ []) ps) ≤ unclaimed cs ps
fewer_left moment c cs ps pid n l =
    unclaimed_claimed c cs l.process ps (n ∙ sym l.number) (unclaimed_due moment cs l.process l.due) l.among

pub room_for : (moment room : ℕ) (last : ℤ) (cs : List Claim) (ps : List Process) (pid : ℤ) → Stands room last cs ps → Leads moment cs ps pid → length cs < room
room_for moment room last cs ps pid h l =
    let some = fewer_left moment (record { number = pid; party = 0 }) cs ps pid refl l in
    let most = h.room in
    omega arith

pub stands_claimed : (moment room : ℕ) (c : Claim) (last : ℤ) (cs new : List Claim) (ps : List Process) (pid : ℤ) → Stands room last cs ps → Leads moment cs ps pid → c.number ≡ pid → new ≡ cs ++ c ∷ [] → Stands room last new ps
stands_claimed moment room c last cs new ps pid h l n e =
    let fewer = fewer_left moment c cs ps pid n l in
    let one = length_push cs c in
    let most = h.room in
    rw e (record { numbered = h.numbered; room = omega arith })

pub stands_released : (pid : ℤ) (room : ℕ) (last : ℤ) (cs new : List Claim) (ps : List Process) → Stands room last cs ps → new ≡ filter (λ c. not (is_on pid c)) cs → Stands room last new ps
stands_released pid room last cs new ps h e =
    let less = room_left pid (pos 0) last cs ps h.numbered in
    let most = h.room in
    rw e (record { numbered = h.numbered; room = omega arith })
