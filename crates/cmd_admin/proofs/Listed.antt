-- The processes that are shown, one after another.
use Rattle.std.proofs.Common.{◌≡◌, ℕ, ◌+◌, ◌<◌, ◌≤◌, Bool, true, false, List, [], ◌∷◌, length, drop, get_or, Result, Ok, Err, inl, inr, refl, sym, ◌∙◌, ap, subst, arith}
use Rattle.std.proofs.lemmas.List.{drop_all}
use Rattle.std.specs.List.{filter}
use Rattle.muck_laws.proofs.Places.{split_here}
use Rattle.muck_model.specs.declared.memory.NoMemory.{NoMemory}
use Rattle.spec_live.specs.Lives.{Live, Change, ◌▸◌, change_followed, reading, unchanged, tell}
use Rattle.spec_rights.specs.declared.act.Actor.{Actor}
use Rattle.spec_commands.specs.Finding.{for_each}
use Rattle.muck_queue.specs.declared.process.Process.{Process}
use Rattle.muck_queue.specs.Queues.{Queue}
use Rattle.spec_admin.specs.Replies.{processes_count}
use Rattle.spec_admin.specs.Processes.{may_end, process_shown, processes_shown}
use Rattle.muck_perm.specs.declared.guard.Guard.{Guard}
use Rattle.muck_perm.specs.inner.Guards.{Did, Done, objects_of, world_of}
use Rattle.muck_perm.proofs.Worlds.{did_both}
use Rattle.cmd_admin.specs.inner.Shown.{IsShown}

-- these are shown, and how many they and those before them are
abbrev pub shown_on : ℕ → List Process → ℕ → Change
shown_on d ps n = for_each (process_shown d) ps ▸ tell d (processes_count (n + length ps))

-- those from the place i on that may be ended in the world w
abbrev pub rest_shown : ℕ → Actor → Live → List Process → ℕ → ℕ → Change
rest_shown d a w ps i n = shown_on d (filter (may_end a w) (drop i ps)) n

-- what may be ended is seen by the objects, which stay when something is told
pub still_may : (a b : Actor) (v w : Live) (p : Process) (c : Bool) → a ≡ b → v.objects ≡ w.objects → may_end a v p ≡ c → may_end b w p ≡ c
still_may a b v w p c e f h = rw (sym e, sym f) h

pub objects_stay : (d : ℕ) (p : Process) (w : Live) → (process_shown d p w).objects ≡ w.objects
unfolding process_shown reading tell
objects_stay d p w = refl

shown_more : (d : ℕ) (p : Process) (ps : List Process) (n : ℕ) (a b new : Guard) (r : Result (Unit {0}) NoMemory) →
    Done (process_shown d p) a b → Did (shown_on d ps (n + 1)) b new r → Did (shown_on d (p ∷ ps) n) a new r
unfolding for_each change_followed process_shown tell
shown_more d p ps n a b new r s t =
    let count : (n + 1) + length ps ≡ n + length (p ∷ ps) = omega arith in
    let P : ℕ → Type 0 = λ m. Did (for_each (process_shown d) ps ▸ tell d (processes_count m)) b new r in
    did_both (process_shown d p) (for_each (process_shown d) ps ▸ tell d (processes_count (n + length (p ∷ ps)))) a b new r s (subst P count t)

-- one that may be ended is shown
pub listed_here : (d : ℕ) (x : Actor) (w : Live) (ps : List Process) (i n : ℕ) (p : Process) (a b new : Guard) (r : Result (Unit {0}) NoMemory) →
    i < length ps → p ≡ get_or ps i p → may_end x w p ≡ true → Done (process_shown d p) a b → Did (rest_shown d x w ps (i + 1) (n + 1)) b new r → Did (rest_shown d x w ps i n) a new r
listed_here d x w ps i n p a b new r h is may s t =
    let kept : filter (may_end x w) (drop i ps) ≡ p ∷ filter (may_end x w) (drop (i + 1) ps) = ap (filter (may_end x w)) (split_here ps i p h is) ∙ rw may refl in
    let P : List Process → Type 0 = λ qs. Did (shown_on d qs n) a new r in
    subst P (sym kept) (shown_more d p (filter (may_end x w) (drop (i + 1) ps)) n a b new r s t)

-- another one isn't
pub passed_over : (d : ℕ) (x : Actor) (w : Live) (ps : List Process) (i n : ℕ) (p : Process) (a new : Guard) (r : Result (Unit {0}) NoMemory) →
    i < length ps → p ≡ get_or ps i p → may_end x w p ≡ false → Did (rest_shown d x w ps (i + 1) n) a new r → Did (rest_shown d x w ps i n) a new r
passed_over d x w ps i n p a new r h is may t =
    let left : filter (may_end x w) (drop i ps) ≡ filter (may_end x w) (drop (i + 1) ps) = ap (filter (may_end x w)) (split_here ps i p h is) ∙ rw may refl in
    let P : List Process → Type 0 = λ qs. Did (shown_on d qs n) a new r in
    subst P (sym left) t

none_shown : (d : ℕ) (n : ℕ) (a new : Guard) (r : Result (Unit {0}) NoMemory) → Did (tell d (processes_count n)) a new r → Did (for_each (process_shown d) [] ▸ tell d (processes_count n)) a new r
unfolding for_each change_followed unchanged
none_shown d n a new (Ok u) t = t
none_shown d n a new (Err e) t = t

told_last : (d : ℕ) (n : ℕ) (a new : Guard) (r : Result (Unit {0}) NoMemory) → Did (tell d (processes_count n)) a new r → Did (shown_on d [] n) a new r
told_last d n a new r t =
    let count : n + 0 ≡ n = omega arith in
    let P : ℕ → Type 0 = λ m. Did (for_each (process_shown d) [] ▸ tell d (processes_count m)) a new r in
    subst P (sym count) (none_shown d n a new r t)

-- behind the last one their count is told
pub listed_all : (d : ℕ) (x : Actor) (w : Live) (ps : List Process) (i n : ℕ) (a new : Guard) (r : Result (Unit {0}) NoMemory) →
    length ps ≤ i → Did (tell d (processes_count n)) a new r → Did (rest_shown d x w ps i n) a new r
listed_all d x w ps i n a new r h t =
    let none : drop i ps ≡ [] = drop_all i ps h in
    let P : List Process → Type 0 = λ qs. Did (shown_on d (filter (may_end x w) qs) n) a new r in
    subst P (sym none) (told_last d n a new r t)

all_shown : (d : ℕ) (q : Queue) (a new : Guard) (r : Result (Unit {0}) NoMemory) →
    Did (for_each (process_shown d) (filter (may_end a.actor (world_of a)) q.processes) ▸ tell d (processes_count (length (filter (may_end a.actor (world_of a)) q.processes)))) a new r →
    Did (processes_shown d a.actor q) a new r
unfolding processes_shown reading
all_shown d q a new (Ok u) t = t
all_shown d q a new (Err e) t = t

-- from the first on they are all
pub lists_all : (d : ℕ) (q : Queue) (ps : List Process) (a new : Guard) (r : Result (Unit {0}) NoMemory) → ps ≡ q.processes →
    Did (rest_shown d a.actor (world_of a) ps 0 0) a new r → Did (processes_shown d a.actor q) a new r
lists_all d q ps a new r e t =
    let own : List Process = filter (may_end a.actor (world_of a)) q.processes in
    let count : 0 + length own ≡ length own = omega arith in
    let P : List Process → Type 0 = λ xs. Did (rest_shown d a.actor (world_of a) xs 0 0) a new r in
    let Q : ℕ → Type 0 = λ m. Did (for_each (process_shown d) own ▸ tell d (processes_count m)) a new r in
    all_shown d q a new r (subst Q count (subst P e t))

-- One after another.

-- what stays, and how many it counts
pub stays_shown : (d : ℕ) (p : Process) (a b : Guard) (m : ℕ) → IsShown d p a b (Ok m) → (objects_of b ≡ objects_of a) × (b.actor ≡ a.actor) × (m ≤ 1)
stays_shown d p a b m (inl s) = (ap (λ (w : Live). w.objects) s.2.0 ∙ objects_stay d p (world_of a), s.2.1.0, omega (arith, s.1))
stays_shown d p a b m (inr s) = (ap (λ (g : Guard). objects_of g) s.2, ap (λ (g : Guard). g.actor) s.2, omega (arith, s.1))

pub listed_next : (d : ℕ) (x : Actor) (w : Live) (ps : List Process) (i n m : ℕ) (p : Process) (a b new : Guard) (r : Result (Unit {0}) NoMemory) →
    i < length ps → p ≡ get_or ps i p → a.actor ≡ x → objects_of a ≡ w.objects → IsShown d p a b (Ok m) → Did (rest_shown d x w ps (i + 1) (n + m)) b new r → Did (rest_shown d x w ps i n) a new r
listed_next d x w ps i n m p a b new r h is e f (inl s) t =
    let P : ℕ → Type 0 = λ k. Did (rest_shown d x w ps (i + 1) (n + k)) b new r in
    listed_here d x w ps i n p a b new r h is (still_may a.actor x (world_of a) w p true e f s.0) s.2 (subst P s.1 t)
listed_next d x w ps i n m p a b new r h is e f (inr s) t =
    let none : n + m ≡ n = omega (arith, s.1) in
    let P : ℕ → Type 0 = λ k. Did (rest_shown d x w ps (i + 1) k) b new r in
    let Q : Guard → Type 0 = λ g. Did (rest_shown d x w ps (i + 1) n) g new r in
    passed_over d x w ps i n p a new r h is (still_may a.actor x (world_of a) w p false e f s.0) (subst Q s.2 (subst P none t))
