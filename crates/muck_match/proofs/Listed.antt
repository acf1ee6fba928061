-- The player of a name, by a list of numbers in which each player stands.
use Rattle.std.proofs.Common.{◌≡◌, ℕ, zero, suc, ◌<◌, ◌≤◌, ◌+◌, ◌-◌, pos, Bool, true, false, ◌==◌, cond, List, [], ◌∷◌, Option, Some, None, refl, sym, ◌∙◌, ap, length, map, ◌&&◌, arith}
use Rattle.std.proofs.lemmas.Bool.{and_parts, false≢true, eqb-true}
use Rattle.std.proofs.lemmas.Option.{slice_get_within}
use Rattle.std.specs.Prelude.{slice_get}
use Rattle.std.specs.Option.{option_map_or}
use Rattle.std.specs.List.{find, range_with_len}
use Rattle.muck_model.specs.declared.dbref.Dbref.{Dbref}
use Rattle.muck_model.specs.Numbers.{dbref_numbered, dbref_written}
use Rattle.muck_match.specs.Words.{is_same}
use Rattle.muck_match.specs.Scenery.{Scenery, Sight, sees, is_player}
use Rattle.muck_match.specs.Naming.{one_of, is_player_named, player_named, starred, found_by_sign, thing_found}
use Rattle.muck_match.specs.inner.Listed.{AreListed}
use Rattle.muck_match.proofs.Candidates.{numbers_from, numbers_step, find_all}

-- the first number at which a test holds

find_from : (p : Dbref → Bool) (k n c : ℕ) → n + k < c → ((m : ℕ) → n ≤ m → m < n + k → p (dbref_numbered (pos m)) ≡ false) → p (dbref_numbered (pos (n + k))) ≡ true → find p (numbers_from n c) ≡ Some (dbref_numbered (pos (n + k)))
find_from p zero n c lt below here =
    let at : n + 0 ≡ n = omega arith in
    let first : p (dbref_numbered (pos n)) ≡ true = ap (λ (m : ℕ). p (dbref_numbered (pos m))) (sym at) ∙ here in
    let found : find p (dbref_numbered (pos n) ∷ numbers_from (n + 1) c) ≡ Some (dbref_numbered (pos n)) = rw first refl in
    ap (find p) (numbers_step n c (omega arith)) ∙ found ∙ ap (λ (m : ℕ). Some (dbref_numbered (pos m))) (sym at)
find_from p (suc k) n c lt below here =
    let at : n + suc k ≡ n + 1 + k = omega arith in
    let first : p (dbref_numbered (pos n)) ≡ false = below n (omega arith) (omega arith) in
    let later : find p (dbref_numbered (pos n) ∷ numbers_from (n + 1) c) ≡ find p (numbers_from (n + 1) c) = rw first refl in
    ap (find p) (numbers_step n c (omega arith)) ∙ later
    ∙ find_from p k (n + 1) c (omega arith) (λ m le lt. below m (omega arith) (omega arith)) (ap (λ (m : ℕ). p (dbref_numbered (pos m))) (sym at) ∙ here)
    ∙ ap (λ (m : ℕ). Some (dbref_numbered (pos m))) (sym at)

find_nowhere : (p : Dbref → Bool) (k n c : ℕ) → n + k ≡ c → ((m : ℕ) → m < c → p (dbref_numbered (pos m)) ≡ false) → find p (numbers_from n c) ≡ None
find_nowhere p zero n c e none = let over : c - n ≡ 0 = omega (arith, e) in ap (λ (k : ℕ). find p (map (λ m. dbref_numbered (pos m)) (range_with_len n k))) over
find_nowhere p (suc k) n c e none =
    let first : p (dbref_numbered (pos n)) ≡ false = none n (omega arith) in
    let later : find p (dbref_numbered (pos n) ∷ numbers_from (n + 1) c) ≡ find p (numbers_from (n + 1) c) = rw first refl in
    ap (find p) (numbers_step n c (omega arith)) ∙ later ∙ find_nowhere p k (n + 1) c (omega arith) none

-- a player of a name is a player
is_seen : (name : List ℕ) (w : Scenery) (d : Dbref) → is_player_named name w d ≡ true → sees (λ s. is_player s.kind) w d ≡ true
is_seen name w d e = at (w.sight d) e
  where
    at : (o : Option Sight) → option_map_or (λ (s : Sight). is_player s.kind && is_same name s.name) o false ≡ true → option_map_or (λ (s : Sight). is_player s.kind) o false ≡ true
    at None e = absurd (false≢true e)
    at (Some s) e = (and_parts (is_player s.kind) (is_same name s.name) e).0

-- of the numbers up to a place none below the least is a player of that name
abbrev pub Passed : List ℕ → Scenery → List ℕ → ℕ → ℕ → Type 0
Passed name w ns index least = (at m : ℕ) → at < index → slice_get ns at ≡ Some m → m < least → is_player_named name w (dbref_numbered (pos m)) ≡ false

unnamed : (name : List ℕ) (w : Scenery) (ns : List ℕ) (end least m : ℕ) → AreListed w ns → length ns ≤ end → Passed name w ns end least → m < least → is_player_named name w (dbref_numbered (pos m)) ≡ false
unnamed name w ns end least m listed past passed below = at (is_player_named name w (dbref_numbered (pos m))) refl
  where
    at : (b : Bool) → is_player_named name w (dbref_numbered (pos m)) ≡ b → b ≡ false
    at false e = refl
    at true e = let among = listed m (is_seen name w (dbref_numbered (pos m)) e) in absurd (false≢true (sym (passed among.at m (omega (arith, past, slice_get_within ns among.at m among.is)) among.is below) ∙ e))

pub least_named : (name : List ℕ) (w : Scenery) (ns : List ℕ) (end least count : ℕ) → count ≡ w.count → AreListed w ns → length ns ≤ end → Passed name w ns end least → least < count → is_player_named name w (dbref_numbered (pos least)) ≡ true → Some (dbref_numbered (pos least)) ≡ player_named w name
least_named name w ns end least count is listed past passed lt here =
    let from : 0 + least ≡ least = omega arith in
    let found : find (is_player_named name w) (numbers_from 0 count) ≡ Some (dbref_numbered (pos (0 + least))) =
    find_from (is_player_named name w) least 0 count (omega (arith, lt)) (λ m le below. unnamed name w ns end least m listed past passed (omega (arith, below))) (ap (λ (m : ℕ). is_player_named name w (dbref_numbered (pos m))) from ∙ here) in
    ap (λ (m : ℕ). Some (dbref_numbered (pos m))) (sym from) ∙ sym found ∙ find_all w name count is

pub none_named : (name : List ℕ) (w : Scenery) (ns : List ℕ) (end least count : ℕ) → count ≡ w.count → AreListed w ns → length ns ≤ end → Passed name w ns end least → count ≤ least → None ≡ player_named w name
none_named name w ns end least count is listed past passed le =
    sym (find_nowhere (is_player_named name w) count 0 count (omega arith) (λ m below. unnamed name w ns end least m listed past passed (omega arith))) ∙ find_all w name count is

starred_so : (w : Scenery) (player : Dbref) (name : List ℕ) → thing_found w player (42 ∷ name) ≡ one_of (player_named w name)
unfolding thing_found found_by_sign is_same dbref_written
starred_so w player name = refl

-- what stands behind a `*` names a player
pub starred_found : (w : Scenery) (player : Dbref) (text name : List ℕ) → starred text ≡ Some name → thing_found w player text ≡ one_of (player_named w name)
starred_found w player [] name e = absurd (cc (e))
starred_found w player (b ∷ rest) name e = at (b == 42) refl e
  where
    at : (yes : Bool) → b == 42 ≡ yes → ◌≡◌ {A = Option (List ℕ)} (cond yes (Some rest) None) (Some name) → thing_found w player (b ∷ rest) ≡ one_of (player_named w name)
    at true is f = let same : rest ≡ name = cc f in ap (λ (n : ℕ). thing_found w player (n ∷ rest)) (eqb-true b 42 is) ∙ starred_so w player rest ∙ ap (λ (l : List ℕ). one_of (player_named w l)) same
    at false is f = absurd (cc f)
