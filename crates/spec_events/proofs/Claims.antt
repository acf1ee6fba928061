-- The process that is to go on may be claimed, and then sliced.
use Rattle.std.proofs.Common.{◌≡◌, ℕ, ℤ, Bool, true, false, not, ◌&&◌, ◌||◌, ◌==◌, cond, List, [], ◌∷◌, ◌++◌, refl, sym, ◌∙◌, ap, subst, Option, Some, None}
use Rattle.std.specs.Prelude.{fold, find, is_some}
use Rattle.std.specs.List.{filter, reduce, list_any}
use Rattle.std.specs.Option.{option_map}
use Rattle.std.specs.Ordering.{int_eq}
use Rattle.std.proofs.lemmas.Bool.{cond-false, or_right, eq-eqb}
use Rattle.std.proofs.lemmas.Cmp.{int_eq_equiv}
use Rattle.muck_laws.proofs.Truths.{due_of, lost_gone, slice_there}
use Rattle.muck_model.specs.declared.event.Event.TheVariants.{Claim, Slice, Lost}
use Rattle.muck_queue.specs.declared.claim.Claim.{Claim as Claimed}
use Rattle.muck_queue.specs.declared.process.Process.{Process}
use Rattle.muck_queue.specs.Queues.{Queue, has_pid, is_process_due, is_on, is_before, earlier, earliest, next_due, claimed}
use Rattle.spec_events.specs.World.{World, on_queue}
use Rattle.spec_events.specs.Steps.{has_claim, is_process_there, is_lawful, effect, next_process}
use Rattle.spec_events.specs.inner.Sound.{IsSound}

-- p is one of them
data Among (p : Process) : List Process → Type 0 where
  first : {ps : List Process} → Among p (p ∷ ps)
  later : {q : Process} {ps : List Process} → Among p ps → Among p (q ∷ ps)

either_among : (b : Bool) (p x y : Process) (ys : List Process) → Among p (cond b y x ∷ ys) → Among p (x ∷ y ∷ ys)
either_among true p x y ys a = later a
either_among false p x y ys first = first
either_among false p x y ys (later a) = later (later a)

fold_among : (x : Process) (ys : List Process) → Among (fold earlier x ys) (x ∷ ys)
fold_among x [] = first
fold_among x (y ∷ ys) = either_among (is_before y x) _ x y ys (fold_among (earlier x y) ys)

same_pid : (p : Process) → has_pid p.number p ≡ true
same_pid p = int_eq_equiv.refl p.number

kept_any : (test : Process → Bool) (p x : Process) (ps qs : List Process) → test x ≡ true → (Among p qs → list_any (λ q. has_pid p.number q && test q) ps ≡ true) → Among p (x ∷ qs) →
    ((has_pid p.number x && test x) || list_any (λ q. has_pid p.number q && test q) ps) ≡ true
kept_any test p x ps qs e rest first = ap (λ b. (b && test p) || list_any (λ q. has_pid p.number q && test q) ps) (same_pid p) ∙ ap (λ b. b || list_any (λ q. has_pid p.number q && test q) ps) e
kept_any test p x ps qs e rest (later a) = or_right (has_pid p.number x && test x) (list_any (λ q. has_pid p.number q && test q) ps) (rest a)

filtered : (test : Process → Bool) (p : Process) (ps : List Process) → Among p (filter test ps) → list_any (λ q. has_pid p.number q && test q) ps ≡ true
filtered test p [] = λ a. elim a [ ]
filtered test p (x ∷ ps) =
    (elim (test x) as (λ b. test x ≡ b → Among p (cond b (x ∷ filter test ps) (filter test ps)) → list_any (λ q. has_pid p.number q && test q) (x ∷ ps) ≡ true) [
      | true ↦ λ e a. kept_any test p x ps (filter test ps) e (filtered test p ps) a
      | false ↦ λ e a. or_right (has_pid p.number x && test x) (list_any (λ q. has_pid p.number q && test q) ps) (filtered test p ps a)
    ]) refl

named_any : (test : Process → Bool) (p : Process) (ps : List Process) (pid : ℤ) → Among p (filter test ps) → ◌≡◌ {A = Option ℤ} (Some p.number) (Some pid) → list_any (λ q. has_pid pid q && test q) ps ≡ true
named_any test p ps pid a f = let n : p.number ≡ pid = cc in ap (λ k. list_any (λ q. has_pid k q && test q) ps) (sym n) ∙ filtered test p ps a

among_any : (test : Process → Bool) (ps qs : List Process) (pid : ℤ) → filter test ps ≡ qs → option_map (λ (p : Process). p.number) (reduce earlier qs) ≡ Some pid → list_any (λ q. has_pid pid q && test q) ps ≡ true
among_any test ps [] pid e f = cc
among_any test ps (q ∷ qs) pid e f =
    let P : List Process → Type 0 = Among (fold earlier q qs) in
    named_any test (fold earlier q qs) ps pid (subst P (sym e) (fold_among q qs)) f

earliest_any : (test : Process → Bool) (ps : List Process) (pid : ℤ) → option_map (λ (p : Process). p.number) (earliest test ps) ≡ Some pid → list_any (λ q. has_pid pid q && test q) ps ≡ true
earliest_any test ps pid f = among_any test ps (filter test ps) pid refl f

claim_may : (dead stop : Bool) (moment : ℕ) (q : Queue) (pid : ℤ) → dead ≡ false → cond (dead || stop) None (next_due moment q) ≡ Some pid →
    cond dead false (list_any (λ p. has_pid pid p && is_process_due moment q.claims p) q.processes && not stop) ≡ true
unfolding next_due
claim_may true stop moment q pid a e = cc
claim_may false true moment q pid a e = cc
claim_may false false moment q pid a e = ap (λ b. b && true) (earliest_any (is_process_due moment q.claims) q.processes pid e)

-- the choice of a turn may be claimed, by any party
pub claim_lawful : (w : World) (party : ℕ) (pid : ℤ) → IsSound w → next_process w ≡ Some pid → is_lawful w (record { party = party; event = Claim pid }) ≡ true
unfolding is_lawful next_process
claim_lawful w party pid h e = claim_may w.dead w.stopping w.moment w.queue pid h.alive e

-- Then it is claimed.

last_any : (test : Claimed → Bool) (c : Claimed) (cs : List Claimed) → test c ≡ true → list_any test (cs ++ c ∷ []) ≡ true
last_any test c [] e = ap (λ b. b || false) e
last_any test c (x ∷ cs) e = or_right (test x) (list_any test (cs ++ c ∷ [])) (last_any test c cs e)

there_any : (test : Process → Bool) (pid : ℤ) (ps : List Process) → list_any (λ p. has_pid pid p && test p) ps ≡ true → is_some (find (has_pid pid) ps) ≡ true
there_any test pid [] = λ e. cc
there_any test pid (p ∷ ps) =
    elim (has_pid pid p) as (λ b. ((b && test p) || list_any (λ p. has_pid pid p && test p) ps) ≡ true → is_some (cond b (Some p) (find (has_pid pid) ps)) ≡ true) [
      | true ↦ λ e. refl
      | false ↦ λ e. there_any test pid ps e
    ]

slice_may : (w : World) (party : ℕ) (pid : ℤ) → w.dead ≡ false → list_any (λ p. has_pid pid p && is_process_due w.moment w.queue.claims p) w.queue.processes ≡ true → cond w.dead false (has_claim party pid (on_queue (claimed pid party) w) && is_process_there pid (on_queue (claimed pid party) w)) ≡ true
unfolding claimed
slice_may w party pid a e =
    let on : (int_eq pid pid && (party == party)) ≡ true = ap (λ b. b && (party == party)) (int_eq_equiv.refl pid) ∙ eq-eqb party party refl in
    let mine = last_any (λ c. is_on pid c && (c.party == party)) (record { number = pid; party = party }) w.queue.claims on in
    cond-false _ _ _ a ∙ ap (λ b. b && is_some (find (has_pid pid) w.queue.processes)) mine ∙ there_any (is_process_due w.moment w.queue.claims) pid w.queue.processes e

alive_of : (dead stop : Bool) (moment : ℕ) (q : Queue) (pid : ℤ) → cond (dead || stop) None (next_due moment q) ≡ Some pid → dead ≡ false
alive_of true stop moment q pid e = cc
alive_of false stop moment q pid e = refl

-- the choice of a turn is claimed, and then it may be sliced
pub chosen_lawful : (w : World) (party : ℕ) (pid : ℤ) → next_process w ≡ Some pid →
    is_lawful (effect w (record { party = party; event = Claim pid })) (record { party = party; event = Slice pid }) ≡ true
unfolding is_lawful effect next_process
chosen_lawful w party pid e =
    slice_may w party pid (alive_of w.dead w.stopping w.moment w.queue pid e) (due_of w.dead w.stopping _ (alive_of w.dead w.stopping w.moment w.queue pid e) (claim_may w.dead w.stopping w.moment w.queue pid (alive_of w.dead w.stopping w.moment w.queue pid e) e))

-- A process that a party has claimed is sliced, or it ended meanwhile, and then the claim is lost.

pub slice_lawful : (w : World) (party : ℕ) (pid : ℤ) → w.dead ≡ false → has_claim party pid w ≡ true → is_process_there pid w ≡ true → is_lawful w (record { party = party; event = Slice pid }) ≡ true
unfolding is_lawful
slice_lawful w party pid a c t = slice_there w.dead (is_process_there pid w) (has_claim party pid w) a c t

pub lost_lawful : (w : World) (party : ℕ) (pid : ℤ) → w.dead ≡ false → has_claim party pid w ≡ true → is_process_there pid w ≡ false → is_lawful w (record { party = party; event = Lost pid }) ≡ true
unfolding is_lawful
lost_lawful w party pid a c t = lost_gone w.dead (is_process_there pid w) (has_claim party pid w) a c t
