-- What the mirror of a store holds.
use Rattle.std.proofs.Common.{◌≡◌, ℕ, suc, ◌<◌, ◌≤◌, ◌^◌, Bool, true, false, eqb, List, [], ◌∷◌, ◌++◌, length, Option, Some, None, refl, sym, ◌∙◌, ap, arith}
use Rattle.std.specs.Prelude.{find, if◌then◌else◌}
use Rattle.std.proofs.lemmas.List.Elements.{All-append, All-nil, All-cons}
use Rattle.std.proofs.lemmas.Option.{none-some}
use Rattle.muck_log.specs.World.{start}
use Rattle.muck_log.specs.Store.{Chosen, pick}
use Rattle.muck_mirror.specs.Mirrors.{Mirror}
use Rattle.muck_mirror.specs.Fronts.{Call, mirror_after_call as left_by_call, after_calls, IsOneOf, AllOneOf}
use Rattle.muck_mirror.proofs.Fronts.{holds}
use Rattle.muck_bodies.specs.Bodies.{bodies_of, body_numbered, body_number, first_number}
use Rattle.muck_bodies.proofs.Stores.{lead_there}
use Rattle.muck_follow.specs.declared.act.Act.{Act}
use Rattle.muck_follow.specs.declared.act.Act.TheVariants.{Nothing, Feed, Look, Examine}
use Rattle.muck_follow.specs.Following.{body_left, mirror_after_act, left_after, call_with, calls_by, mirror_calls, store_mirror}
use Rattle.muck_follow.specs.Fronts.{AreBytes, FollowsFront, FollowsThere}
use Rattle.muck_follow.proofs.Batches.{AllBytes, Row, rows, all_bytes, few, small_first}

after_both : (xs ys : List Call) (m : Mirror) → after_calls (xs ++ ys) m ≡ after_calls ys (after_calls xs m)
unfolding after_calls
after_both [] ys m = refl
after_both (c ∷ xs) ys m = after_both xs ys (left_by_call c m)

after_one : (act : Act) (bs : List (List ℕ)) (m : Mirror) → after_calls (calls_by act bs) m ≡ mirror_after_act act bs m
unfolding after_calls
after_one Nothing bs m = refl
after_one (Look d) bs m = refl
after_one (Examine d) bs m = refl
after_one (Feed k) bs m = by (body_numbered k bs)
  where
    by : (o : Option (List ℕ)) → after_calls (call_with o) m ≡ body_left o m
    by None = refl
    by (Some bytes) = refl

-- the calls of a script leave what its lines do
pub left_is : (acts : List Act) (bs : List (List ℕ)) (m : Mirror) → left_after acts bs m ≡ after_calls (mirror_calls acts bs) m
unfolding left_after after_calls
left_is [] bs m = refl
left_is (act ∷ acts) bs m =
    left_is acts bs (mirror_after_act act bs m) ∙ ap (after_calls (mirror_calls acts bs)) (sym (after_one act bs m)) ∙ sym (after_both (calls_by act bs) (mirror_calls acts bs) m)

-- what is fed is one of the bodies
one_found : (k : ℕ) (bs : List (List ℕ)) (bytes : List ℕ) → body_numbered k bs ≡ Some bytes → IsOneOf bs bytes
unfolding body_numbered
one_found k [] bytes is = absurd (none-some bytes is)
one_found k (b ∷ bs) bytes is = by (eqb (body_number b) k) is (one_found k bs bytes)
  where
    by : (t : Bool) → (if t then Some b else find (λ x. eqb (body_number x) k) bs) ≡ Some bytes → (find (λ x. eqb (body_number x) k) bs ≡ Some bytes → IsOneOf bs bytes) → IsOneOf (b ∷ bs) bytes
    by true is more = (0, is)
    by false is more = let found = more is in (suc found.0, found.1)

ones : (acts : List Act) (bs : List (List ℕ)) → AllOneOf bs (mirror_calls acts bs)
ones [] bs = All-nil (λ (c : Call). IsOneOf bs c.bytes)
ones (act ∷ acts) bs = All-append (λ (c : Call). IsOneOf bs c.bytes) (calls_by act bs) (mirror_calls acts bs) (of_act act) (ones acts bs)
  where
    with_body : (k : ℕ) (o : Option (List ℕ)) → body_numbered k bs ≡ o → AllOneOf bs (call_with o)
    with_body k None is = All-nil (λ (c : Call). IsOneOf bs c.bytes)
    with_body k (Some bytes) is = All-cons (λ (c : Call). IsOneOf bs c.bytes) (record { bytes = bytes; refused = false }) [] (one_found k bs bytes is) (All-nil (λ (c : Call). IsOneOf bs c.bytes))

    of_act : (act : Act) → AllOneOf bs (calls_by act bs)
    of_act Nothing = All-nil (λ (c : Call). IsOneOf bs c.bytes)
    of_act (Look d) = All-nil (λ (c : Call). IsOneOf bs c.bytes)
    of_act (Examine d) = All-nil (λ (c : Call). IsOneOf bs c.bytes)
    of_act (Feed k) = with_body k (body_numbered k bs) refl

follows_file : (acts : List Act) (s : Chosen) (file : List ℕ) → AreBytes file → length file ≤ 2 ^ 63 → Row s.held.generation (first_number (bodies_of file)) start (bodies_of file) s.held.world → first_number (bodies_of file) < 2 ^ 64
    → length (bodies_of file) ≤ length file → FollowsFront acts s file
follows_file acts s file are small row wide less =
    let bs = bodies_of file in
    let held = holds s.held.generation (first_number bs) wide bs (mirror_calls acts bs) row.batches (omega (arith, less, small)) (ones acts bs) in record {
      batches = row.batches;
      whole = row.whole;
      left = left_is acts bs (store_mirror s file);
      fed = held.0;
      holds = held.1;
    }

pub follows : FollowsThere
unfolding bodies_of
follows a b s acts loads are small =
    let file = pick s.second a b in
    let all : AllBytes (bodies_of file) = all_bytes (length file) file are in
    follows_file acts s file are small (rows s.held.generation s.held (bodies_of file) all (lead_there a b s loads)) (small_first (bodies_of file) all) (few (length file) file)
