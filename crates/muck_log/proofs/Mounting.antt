-- What mounting finds.
use Rattle.std.proofs.Common.{◌≡◌, inl, inr, ℕ, ◌+◌, ◌≤◌, Bool, true, false, not, eqb, ltb, ◌||◌, List, [], ◌∷◌, length, take, drop, Option, Some, None, Ok, Err, option_map, refl, sym, ◌∙◌, ap, subst, arith, length-take, take-append-drop}
use Rattle.std.proofs.lemmas.List.{take_all, take-take}
use Rattle.std.proofs.lemmas.Bool.{cases_lt, cond-true, cond-false, lt-leb, cond_both}
use Rattle.muck_laws.proofs.Lists.{at_files}
use Rattle.muck_laws.proofs.Parts.{part, take_add}
use Rattle.muck_log.specs.File.{Opened, FileReading, begin, gate_at, run, reading_end, is_gate_open, header, file_of, reached}
use Rattle.muck_log.specs.Store.{store_of, file_picked, file_loaded, must_close, pick, LeavesOnly, LogState}
use Rattle.muck_log.specs.inner.Mount.{IsFirst, IsLook, IsChoice, IsLoaded, IsLoadFault, IsMountFault, IsMountedAs, choice}
use Rattle.muck_log.specs.declared.fault.LogFault.{LogFault}
use Rattle.muck_log.specs.declared.fault.LogFault.TheVariants.{NoMemory, DiskFault, Damaged as DamagedAt, StoreFull, Stale}
use Rattle.muck_log.specs.inner.Head.{is_shut, is_over}
use Rattle.muck_log.specs.declared.mount.First.{First}
use Rattle.muck_log.specs.declared.mount.First.TheVariants.{Shut, Bad, Open}
use Rattle.muck_log.specs.declared.mount.Look.{Look}
use Rattle.muck_log.specs.declared.mount.Choice.{Choice}
use Rattle.muck_log.proofs.Files.{header_is, head_by}
use Rattle.muck_log.proofs.Fronts.{closes}
use Rattle.muck_log.proofs.Moments.{started, goes_on, joined}
use Rattle.muck_log.proofs.Runs.{run-append, run_over}
use Rattle.muck_disk.specs.Images.{Elapses, Same, Only}

front_close : (x : List ℕ) → must_close 0 (take 34 x) ≡ must_close 0 x
unfolding must_close
front_close [] = refl
front_close (b ∷ x) =
    ap (λ t. t || eqb b 1) (lt-leb (length (b ∷ take 33 x)) 0 (omega arith)) ∙ sym (ap (λ t. t || eqb b 1) (lt-leb (length (b ∷ x)) 0 (omega arith)))

front_open : (x : List ℕ) → is_gate_open (take 34 x) ≡ is_gate_open x
unfolding is_gate_open
front_open [] = refl
front_open (a ∷ []) = refl
front_open (a ∷ b ∷ x) = refl

front_header : (x : List ℕ) → header (take 34 x) ≡ header x
front_header x = elim (cases_lt (length x) 34) [
  | inl short ↦ ap header (take_all 34 x (omega (arith, short)))
  | inr long ↦
      let twice : take 34 (take 34 x) ≡ take 34 x = take-take 34 34 x (omega arith) in
      header_is (take 34 x) (omega (arith, length-take 34 x, long))
      ∙ ap (λ l. head_by l (take 25 (drop 9 (take 34 x)))) (part 34 1 8 x (take 34 x) (omega arith) twice)
      ∙ ap (head_by (take 8 (drop 1 x))) (part 34 9 25 x (take 34 x) (omega arith) twice)
      ∙ sym (header_is x long)
]

first_front : (f : First) (x : List ℕ) → IsFirst f (take 34 x) → IsFirst f x
first_front Shut x is = sym (front_open x) ∙ is
first_front Bad x is = (sym (front_open x) ∙ is.0, sym (front_header x) ∙ is.1)
first_front (Open g) x is = (sym (front_open x) ∙ is.0, sym (front_header x) ∙ is.1)

pub look_front : (look : Look) (x : List ℕ) → IsLook look (take 34 x) → IsLook look x
look_front look x is = record { first = first_front look.first x is.first; close = is.close ∙ front_close x }

abbrev of_first : First → List ℕ → Option (Option Opened)
of_first Shut x = None
of_first Bad x = Some None
of_first (Open g) x = Some (Some (record { generation = g; ending = reading_end (run (gate_at 0 (begin g)) x) }))

file_is : (f : First) (x : List ℕ) → IsFirst f x → file_of x ≡ of_first f x
unfolding file_of
file_is Shut x is = cond-false (is_gate_open x) _ _ is
file_is Bad x is = cond-true (is_gate_open x) _ _ is.0 ∙ ap (λ o. Some (option_map (λ g. record { generation = g; ending = reading_end (run (gate_at 0 (begin g)) x) }) o)) is.1
file_is (Open g) x is = cond-true (is_gate_open x) _ _ is.0 ∙ ap (λ o. Some (option_map (λ g. record { generation = g; ending = reading_end (run (gate_at 0 (begin g)) x) }) o)) is.1

by_firsts : (a b : First) (x y : List ℕ) → IsFirst a x → IsFirst b y → store_of x y ≡ file_picked (of_first a x) (of_first b y)
unfolding store_of
by_firsts a b x y p q = ap (λ f. file_picked f (file_of y)) (file_is a x p) ∙ ap (file_picked (of_first a x)) (file_is b y q)

made : (a b : First) (x y : List ℕ) → store_of x y ≡ file_picked (of_first a x) (of_first b y) → IsChoice (choice a b) x y
unfolding file_picked
made Bad b x y e = e
made Shut Bad x y e = e
made (Open g) Bad x y e = e
made Shut Shut x y e = e
made (Open g) Shut x y e = e
made Shut (Open h) x y e = e
made (Open g) (Open h) x y e =
    cond_both (eqb g h) _ _ (λ c. IsChoice c x y)
    (λ same. e ∙ cond-true (eqb g h) _ _ same)
    (λ differ. cond_both (ltb h g) _ _ (λ c. IsChoice c x y)
    (λ less. e ∙ cond-false (eqb g h) _ _ differ ∙ cond-true (ltb h g) _ _ less)
    (λ more. e ∙ cond-false (eqb g h) _ _ differ ∙ cond-false (ltb h g) _ _ more))

pub choices : (a b : First) (x y : List ℕ) → IsFirst a x → IsFirst b y → IsChoice (choice a b) x y
choices a b x y p q = made a b x y (by_firsts a b x y p q)

-- a reading in its midst
pub record IsSoFar {D : Type 0} (see : D → List ℕ) (moment : D → ℕ) (images : D → ℕ → List ℕ → Type 0) (old now : D) (generation at total : ℕ) (reader : FileReading) : Type 0 where
  pub size : total ≡ length (see old)
  pub reads : reader ≡ run (gate_at 0 (begin generation)) (take at (see old))
  pub seen : see now ≡ see old
  pub any : LeavesOnly moment images old now (images old (moment old))

pub reached_start : (g : ℕ) (r : FileReading) → r ≡ gate_at 0 (begin g) → reached r ≤ 0
unfolding gate_at
reached_start g r is = subst (λ (s : FileReading). reached s ≤ 0) (sym is) (omega arith)

module _ {D : Type 0} (see : D → List ℕ) (moment : D → ℕ) (images : D → ℕ → List ℕ → Type 0) where
  -- a call that changes nothing
  pub quiet : (old new : D) → Elapses (moment old) (moment new) (images old) (images new) Same → LeavesOnly moment images old new (images old (moment old))
  quiet old new time = goes_on moment images old old new (images old (moment old)) Same (started moment images old (images old (moment old)) (λ c left. left)) time (λ d c left same. subst (images old (moment old)) (sym same) left)

  -- after another
  pub quiet_too : (old mid new : D) → LeavesOnly moment images old mid (images old (moment old)) → LeavesOnly moment images mid new (images mid (moment mid)) → LeavesOnly moment images old new (images old (moment old))
  quiet_too old mid new first second = joined moment images old mid new (images old (moment old)) (images mid (moment mid)) (images old (moment old)) first second (λ c left. left) (λ c left. first.each (moment mid) c first.later (omega arith) left)

  pub first_so_far : (old now : D) (g total : ℕ) (r : FileReading) → total ≡ length (see old) → see now ≡ see old → Elapses (moment old) (moment now) (images old) (images now) Same → r ≡ gate_at 0 (begin g)
      → IsSoFar see moment images old now g 0 total r
  unfolding run
  first_so_far old now g total r size seen time is = record { size = size; reads = is; seen = seen; any = quiet old now time }

  pub more_so_far : (old mid new : D) (g at n total : ℕ) (r r' : FileReading) (bytes : List ℕ) → IsSoFar see moment images old mid g at total r → bytes ≡ take n (drop at (see mid)) → see new ≡ see mid
      → LeavesOnly moment images mid new (images mid (moment mid)) → r' ≡ run r bytes → IsSoFar see moment images old new g (at + n) total r'
  more_so_far old mid new g at n total r r' bytes so is seen any reads = record {
    size = so.size;
    reads = reads ∙ ap (λ (s : FileReading). run s bytes) so.reads ∙ ap (run (run (gate_at 0 (begin g)) (take at (see old)))) (is ∙ ap (λ l. take n (drop at l)) so.seen)
        ∙ sym (run-append (gate_at 0 (begin g)) (take at (see old)) (take n (drop at (see old)))) ∙ ap (run (gate_at 0 (begin g))) (sym (take_add at n (see old)));
    seen = seen ∙ so.seen;
    any = quiet_too old mid new so.any any;
  }

  pub whole_so_far : (old now : D) (g at total : ℕ) (r : FileReading) → IsSoFar see moment images old now g at total r → total ≤ at → r ≡ run (gate_at 0 (begin g)) (see old)
  whole_so_far old now g at total r so past = so.reads ∙ ap (run (gate_at 0 (begin g))) (take_all at (see old) (omega (arith, so.size)))

  pub over_so_far : (old now : D) (g at total : ℕ) (r : FileReading) → IsSoFar see moment images old now g at total r → is_over r.mode ≡ true → r ≡ run (gate_at 0 (begin g)) (see old)
  over_so_far old now g at total r so over =
      sym (run_over r (drop at (see old)) over) ∙ ap (λ (s : FileReading). run s (drop at (see old))) so.reads ∙ sym (run-append (gate_at 0 (begin g)) (take at (see old)) (drop at (see old))) ∙ ap (run (gate_at 0 (begin g))) (take-append-drop at (see old))

-- the log of two files, by what mounting found
pub load_ok : (a b : List ℕ) (at : Bool) (g most : ℕ) (log : LogState) (other : Bool) (reading : FileReading) → store_of a b ≡ file_loaded at (reading_end (run (gate_at 0 (begin g)) (pick at a b))) → reading ≡ run (gate_at 0 (begin g)) (pick at a b)
    → IsLoaded reading at other most log → store_of a b ≡ Ok log.chosen
load_ok a b at g most log other reading is reads l =
    is ∙ ap (λ (r : FileReading). file_loaded at (reading_end r)) (sym reads) ∙ ap (file_loaded at) l.ends
    ∙ ap (λ s. Ok (record { second = s; place = log.chosen.place; held = log.chosen.held })) (sym l.second)

pub load_err : (a b : List ℕ) (at second : Bool) (g place : ℕ) (reading : FileReading) → store_of a b ≡ file_loaded at (reading_end (run (gate_at 0 (begin g)) (pick at a b))) → reading ≡ run (gate_at 0 (begin g)) (pick at a b)
    → (reading_end reading ≡ Err place) × (second ≡ at) → store_of a b ≡ Err (record { second = second; at = place })
load_err a b at second g place reading is reads l =
    is ∙ ap (λ (r : FileReading). file_loaded at (reading_end r)) (sym reads) ∙ ap (file_loaded at) l.0 ∙ ap (λ s. Err (record { second = s; at = place })) (sym l.1)

pub load_close : (x : List ℕ) (at other : Bool) (g most : ℕ) (log : LogState) (reading : FileReading) → reading ≡ run (gate_at 0 (begin g)) x → IsLoaded reading at other most log
    → log.close ≡ must_close log.chosen.place x
load_close x at other g most log reading reads l =
    l.close ∙ ap (λ (r : FileReading). not (is_shut r.mode)) reads
    ∙ sym (closes g x (record { place = log.chosen.place; held = log.chosen.held }) (ap reading_end (sym reads) ∙ l.ends))

pub load_fault : (a b : List ℕ) (at : Bool) (g : ℕ) (reading : FileReading) (fault : LogFault) → store_of a b ≡ file_loaded at (reading_end (run (gate_at 0 (begin g)) (pick at a b))) → reading ≡ run (gate_at 0 (begin g)) (pick at a b)
    → IsLoadFault reading at fault → IsMountFault a b fault
load_fault a b at g reading (DamagedAt second place) is reads l = load_err a b at second g place reading is reads l
load_fault a b at g reading NoMemory is reads l = tt
load_fault a b at g reading DiskFault is reads l = absurd l
load_fault a b at g reading (StoreFull end more) is reads l = absurd l
load_fault a b at g reading Stale is reads l = absurd l

pub found : (ch : Choice) (a b : First) (x y : List ℕ) → ch ≡ choice a b → IsFirst a x → IsFirst b y → IsChoice ch x y
found ch a b x y is p q = subst (λ (c : Choice). IsChoice c x y) (sym is) (choices a b x y p q)

module _ {D : Type 0} (see : D → List ℕ) (moment : D → ℕ) (images : D → ℕ → List ℕ → Type 0) where
  pub still_only : (old new : D) → LeavesOnly moment images old new (images old (moment old)) → Only (see old) (images old (moment old)) → see new ≡ see old → Only (see new) (images new (moment new))
  still_only old new leaves only same = λ c left. only c (leaves.each (moment new) c leaves.later (omega arith) left) ∙ sym same

  pub mounted_load : (first second first' second' : D) (a b : Look) (at : Bool) (g most : ℕ) (log : LogState) (reading : FileReading)
      → see first' ≡ see first → see second' ≡ see second → Only (see first') (images first' (moment first')) → Only (see second') (images second' (moment second'))
      → IsLook a (see first) → IsLook b (see second)
      → store_of (see first) (see second) ≡ file_loaded at (reading_end (run (gate_at 0 (begin g)) (pick at (see first) (see second)))) → reading ≡ run (gate_at 0 (begin g)) (pick at (see first) (see second))
      → IsLoaded reading at (pick at b.close a.close) most log → IsMountedAs see moment images most log first' second'
  mounted_load first second first' second' a b at g most log reading f s f_only s_only la lb is reads l = record {
    mounted = record {
      fresh = l.fresh;
      load = at_files (λ x y. store_of x y ≡ Ok log.chosen) (see first) (see second) (see first') (see second') f s (load_ok (see first) (see second) at g most log (pick at b.close a.close) reading is reads l);
      close = at_files (λ x y. log.close ≡ must_close log.chosen.place (pick log.chosen.second x y)) (see first) (see second) (see first') (see second') f s
          (load_close (pick at (see first) (see second)) at (pick at b.close a.close) g most log reading reads l ∙ ap (λ k. must_close log.chosen.place (pick k (see first) (see second))) (sym l.second));
      other_close = at_files (λ x y. log.other_close ≡ must_close 0 (pick log.chosen.second y x)) (see first) (see second) (see first') (see second') f s
          (l.other_close ∙ both at ∙ ap (λ k. must_close 0 (pick k (see second) (see first))) (sym l.second));
      first_durable = f_only;
      second_durable = s_only;
    };
    limit = l.limit;
  }
    where
      both : (k : Bool) → pick k b.close a.close ≡ must_close 0 (pick k (see second) (see first))
      both true = la.close
      both false = lb.close

  pub mounted_empty : (first second first' second' : D) (a b : Look) (most : ℕ) (log : LogState)
      → see first' ≡ see first → see second' ≡ see second → Only (see first') (images first' (moment first')) → Only (see second') (images second' (moment second'))
      → IsLook a (see first) → IsLook b (see second) → store_of (see first) (see second) ≡ Ok (record { second = false; place = 0; held = begin 1 })
      → log ≡ record { chosen = record { second = false; place = 0; held = begin 1 }; close = a.close; other_close = b.close; stale = false; most = most }
      → IsMountedAs see moment images most log first' second'
  unfolding begin
  mounted_empty first second first' second' a b most log f s f_only s_only la lb is made_so =
      let none : LogState = record { chosen = record { second = false; place = 0; held = begin 1 }; close = a.close; other_close = b.close; stale = false; most = most } in
      subst (λ (k : LogState). IsMountedAs see moment images most k first' second') (sym made_so) (record {
        mounted = record {
          fresh = refl;
          load = at_files (λ x y. store_of x y ≡ Ok none.chosen) (see first) (see second) (see first') (see second') f s is;
          close = at_files (λ x y. a.close ≡ must_close 0 x) (see first) (see second) (see first') (see second') f s la.close;
          other_close = at_files (λ x y. b.close ≡ must_close 0 y) (see first) (see second) (see first') (see second') f s lb.close;
          first_durable = f_only;
          second_durable = s_only;
        };
        limit = refl;
      })
