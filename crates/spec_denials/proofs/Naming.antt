-- What is asked first, and how tests and rows are put together.
use Rattle.std.proofs.Common.{◌≡◌, ℕ, zero, suc, ℤ, negsuc, Bool, true, false, cond, List, [], ◌∷◌, ◌++◌, drop, length, Option, Some, None, refl, sym, ◌∙◌, ap, subst, nat_lt, ◌+◌}
use Rattle.std.specs.Option.{option_or}
use Rattle.std.specs.Prelude.{option_map}
use Rattle.muck_laws.proofs.Options.{option_or_last}
use Rattle.muck_model.specs.declared.dbref.Denial.{Denial}
use Rattle.spec_live.specs.Lives.{Live}
use Rattle.spec_live.specs.Objects.{Entry}
use Rattle.spec_rights.specs.declared.act.Actor.{Actor}
use Rattle.spec_rights.specs.declared.act.Act.{Act}
use Rattle.spec_rights.specs.declared.act.Act.TheVariants.{Shared, Near}
use Rattle.spec_rights.specs.Verdict.{verdict}
use Rattle.muf_model.specs.declared.fault.MufFault.{MufFault}
use Rattle.muf_model.specs.declared.fault.MufFault.TheVariants.{Denied, StackEmpty, StackFull, StackLocked, BadType, NoSuchObject}
use Rattle.muf_model.specs.declared.needs.Need.{Need}
use Rattle.muf_model.specs.Answer.{too_few}
use Rattle.muf_model.specs.Datum.{Datum, int, object}
use Rattle.muf_model.specs.Needs.{Needs, Many}
use Rattle.muf_model.specs.Ladder.{short, miscounted, too_short, unfit, absent, first_refusal, distant, wanted}
use Rattle.muf_model.specs.Kinds.{kind_of_item, suits}
use Rattle.spec_prims.specs.Asking.{object_numbered, fault_of_denial, level_fault, near_fault, is_number_there}
use Rattle.spec_prims.specs.Row.{WorldAnswer, gives, refuses, breaks, row_unless, given_upon}
use Rattle.spec_prims.specs.Shared.{fault_by}
use Rattle.spec_denials.specs.Acts.{near_act, near_acts, acts_with}
use Rattle.spec_denials.specs.Asked.{first_denied, FaultNames, RowNames}

-- the rule of a denial
abbrev pub rule_of : Option Denial → Option ℕ
rule_of o = option_map (λ d. d.rule) o

-- the first of two rules, of which the second is that of what is asked behind
pub denied_both : (es : List Entry) (a : Actor) (xs ys : List Act) → first_denied es a (xs ++ ys) ≡ option_or (first_denied es a xs) (first_denied es a ys)
denied_both es a [] ys = refl
denied_both es a (x ∷ xs) ys = ap (option_or (rule_of (verdict es a x))) (denied_both es a xs ys) ∙ sym (or_twice (rule_of (verdict es a x)) (first_denied es a xs) (first_denied es a ys))
  where
    or_twice : (o p q : Option ℕ) → option_or (option_or o p) q ≡ option_or o (option_or p q)
    or_twice None p q = refl
    or_twice (Some n) p q = refl

pub denied_one : (es : List Entry) (a : Actor) (act : Act) → first_denied es a (act ∷ []) ≡ rule_of (verdict es a act)
denied_one es a act = or_none (rule_of (verdict es a act))
  where
    or_none : (o : Option ℕ) → option_or o None ≡ o
    or_none None = refl
    or_none (Some n) = refl

-- Tests: one that passes, passes by no rule; one that denies, denies by this.
abbrev pub TestNames : Option ℕ → Option MufFault → Type 0
TestNames rule None = rule ≡ None
TestNames rule (Some f) = FaultNames rule f

pub tests_verdict : (o : Option Denial) → TestNames (rule_of o) (fault_of_denial o)
tests_verdict None = refl
tests_verdict (Some d) = refl

pub fault_or : (r s : Option ℕ) (f : MufFault) → FaultNames r f → FaultNames (option_or r s) f
fault_or r s (Denied n) h = ap (λ x. option_or x s) h
fault_or r s _ h = tt

-- a fault that is no denial is none by whatever rule
pub fault_plain : (f : MufFault) (r : Option ℕ) → FaultNames None f → FaultNames r f
fault_plain (Denied n) r h = absurd cc
fault_plain _ r h = tt

pub tests_or : (r s : Option ℕ) (o q : Option MufFault) → TestNames r o → TestNames s q → TestNames (option_or r s) (option_or o q)
tests_or r s None q h k = subst (λ x. TestNames (option_or x s) q) (sym h) k
tests_or r s (Some f) q h k = fault_or r s f h

-- tests that are none of leave
abbrev pub Plain : Option MufFault → Type 0
Plain o = TestNames None o

plain_or : (o r : Option MufFault) → Plain o → Plain r → Plain (option_or o r)
plain_or o r h k = tests_or None None o r h k

pub plain_if : (b : Bool) (o r : Option MufFault) → Plain o → Plain r → Plain (cond b o r)
plain_if true o r h k = h
plain_if false o r h k = k

plain_few : (n : ℕ) (stack : List Datum) → Plain (Some (too_few n stack))
plain_few n stack = at (nat_lt (length stack) n)
  where
    at : (b : Bool) → Plain (Some (cond b StackEmpty StackLocked))
    at true = tt
    at false = tt

plain_short : (n locked : ℕ) (stack : List Datum) → Plain (short n locked stack)
plain_short zero locked stack = refl
plain_short (suc n) locked stack = plain_if (nat_lt (length stack) (locked + suc n)) (Some (too_few (suc n) stack)) None (plain_few (suc n) stack) refl

plain_miscounted : (stack : List Datum) → Plain (miscounted stack)
plain_miscounted (int (negsuc n) ∷ rest) = tt
plain_miscounted _ = refl

plain_too_short : (needs : Needs) (locked : ℕ) (stack : List Datum) → Plain (too_short needs locked stack)
plain_too_short needs locked stack = at needs.many
  where
    at : (m : Option Many) → Plain (too_short (record needs { many = m }) locked stack)
    at None = plain_short (length needs.fixed) locked stack
    at (Some m) =
        plain_or (short (length (needs.fixed ++ m.under)) locked stack) _ (plain_short (length (needs.fixed ++ m.under)) locked stack)
        (plain_or (miscounted (drop m.at stack)) _ (plain_miscounted (drop m.at stack)) (plain_short (length (wanted (record needs { many = Some m }) stack)) locked stack))

plain_unfit : (n : Need) (x : Datum) → Plain (unfit n x)
plain_unfit n x = plain_if (suits n.kind (kind_of_item x)) None (Some BadType) refl tt

plain_absent : (there : ℤ → Bool) (n : Need) (x : Datum) → Plain (absent there n x)
plain_absent there n (object d) = plain_if n.there (cond (there d) None (Some NoSuchObject)) None (plain_if (there d) None (Some NoSuchObject) refl tt) refl
plain_absent there n _ = plain_if n.there None None refl refl

plain_walk : (test : Need → Datum → Option MufFault) → ((n : Need) (x : Datum) → Plain (test n x)) → (ns : List Need) (xs : List Datum) → Plain (first_refusal test ns xs)
plain_walk test h [] xs = refl
plain_walk test h (n ∷ ns) [] = refl
plain_walk test h (n ∷ ns) (x ∷ xs) = plain_or _ _ (h n x) (plain_walk test h ns xs)

-- what has to be near
module _ (a : Actor) (es : List Entry) where
  names_near : (n : Need) (x : Datum) → TestNames (first_denied es a (near_act n x)) (distant (near_fault a es) n x)
  unfolding near_fault
  names_near n (object d) = at n.near
    where
      at : (b : Bool) → TestNames (first_denied es a (cond b (Near (object_numbered d) ∷ []) [])) (cond b (fault_of_denial (verdict es a (Near (object_numbered d)))) None)
      at true = subst (λ r. TestNames r (fault_of_denial (verdict es a (Near (object_numbered d))))) (sym (denied_one es a (Near (object_numbered d)))) (tests_verdict (verdict es a (Near (object_numbered d))))
      at false = refl
  names_near n _ = plain_if n.near None None refl refl

  names_walk : (ns : List Need) (xs : List Datum) → TestNames (first_denied es a (near_acts ns xs)) (first_refusal (distant (near_fault a es)) ns xs)
  names_walk [] xs = refl
  names_walk (n ∷ ns) [] = refl
  names_walk (n ∷ ns) (x ∷ xs) =
      subst (λ r. TestNames r (first_refusal (distant (near_fault a es)) (n ∷ ns) (x ∷ xs))) (sym (denied_both es a (near_act n x) (near_acts ns xs)))
      (tests_or (first_denied es a (near_act n x)) (first_denied es a (near_acts ns xs)) _ _ (names_near n x) (names_walk ns xs))

  names_level : (level : ℕ) → TestNames (rule_of (verdict es a (Shared level))) (level_fault a es level)
  unfolding level_fault
  names_level level = tests_verdict (verdict es a (Shared level))

-- Rows.

module _ (B : MufFault → Live → Type 0) where
  pub rows_unless : (r s : Option ℕ) (o : Option MufFault) (row : WorldAnswer) → TestNames r o → RowNames B s row → RowNames B (option_or r s) (row_unless o row)
  rows_unless r s None row h k = subst (λ x. RowNames B (option_or x s) row) (sym h) k
  rows_unless r s (Some f) row h k = fault_or r s f h

  pub rows_plain : (s : Option ℕ) (o : Option MufFault) (row : WorldAnswer) → Plain o → RowNames B s row → RowNames B s (row_unless o row)
  rows_plain s o row h k = rows_unless None s o row h k

  rows_full : (c : Bool) (r : Option ℕ) (f : MufFault) (row : WorldAnswer) → FaultNames r f → RowNames B r row → RowNames B r (cond c (refuses f) row)
  rows_full true r f row h k = h
  rows_full false r f row h k = k

  pub rows_upon : (rest : List Datum) (r : Option ℕ) (row : WorldAnswer) → RowNames B r row → RowNames B r (given_upon rest row)
  rows_upon rest r (gives items v) h = rows_full _ r StackFull (gives (items ++ rest) v) tt h
  rows_upon rest r (refuses f) h = h
  rows_upon rest r (breaks f v) h = h

  -- one act, behind which no other is asked for
  pub rows_leave : (es : List Entry) (a : Actor) (act : Act) (row : WorldAnswer) → RowNames B None row → RowNames B (first_denied es a (act ∷ [])) (row_unless (fault_of_denial (verdict es a act)) row)
  rows_leave es a act row h = rows_unless (rule_of (verdict es a act)) None (fault_of_denial (verdict es a act)) row (tests_verdict (verdict es a act)) h

-- What every primitive asks first: its level, and what has to be near; then it is as its own acts say.

-- the acts of the tests, as these put them together
pub denied_with : (es : List Entry) (a : Actor) (needs : Needs) (level : ℕ) (stack : List Datum) (own : List Act) →
    option_or (option_or (option_or (rule_of (verdict es a (Shared level))) None) (first_denied es a (near_acts (wanted needs stack) stack))) (first_denied es a own) ≡ first_denied es a (acts_with (Some needs) level stack own)
denied_with es a needs level stack own =
    option_or_last (rule_of (verdict es a (Shared level))) (first_denied es a (near_acts (wanted needs stack) stack)) (first_denied es a own)
    ∙ ap (option_or (rule_of (verdict es a (Shared level)))) (sym (denied_both es a (near_acts (wanted needs stack) stack) own))

pub names_first : (needs : Needs) (level : ℕ) (argued : Option MufFault) (a : Actor) (locked : ℕ) (stack : List Datum) (w : Live) → Plain argued →
    TestNames (option_or (option_or (rule_of (verdict w.objects a (Shared level))) None) (first_denied w.objects a (near_acts (wanted needs stack) stack))) (fault_by (Some needs) level argued a locked stack w)
names_first needs level argued a locked stack w h =
    let es : List Entry = w.objects in
    let near : Option ℕ = first_denied es a (near_acts (wanted needs stack) stack) in
    let sh : Option ℕ = rule_of (verdict es a (Shared level)) in
    tests_or (option_or sh None) near _ _
    (tests_or None (option_or sh None) (too_short needs locked stack) _ (plain_too_short needs locked stack)
    (tests_or sh None (level_fault a es level) _ (names_level a es level)
    (plain_or (first_refusal unfit (wanted needs stack) stack) _ (plain_walk unfit plain_unfit (wanted needs stack) stack)
    (plain_walk (absent (is_number_there es)) (plain_absent (is_number_there es)) (wanted needs stack) stack))))
    (tests_or None near argued _ h (names_walk a es (wanted needs stack) stack))

-- one whole row, behind what it asks first
pub names_by : (B : MufFault → Live → Type 0) (needs : Option Needs) (level : ℕ) (own : List Act) (argued : Option MufFault) (row : WorldAnswer) (rest : List Datum) (a : Actor) (locked : ℕ) (stack : List Datum) (w : Live) →
    Plain argued → RowNames B (first_denied w.objects a own) row → RowNames B (first_denied w.objects a (acts_with needs level stack own)) (row_unless (fault_by needs level argued a locked stack w) (given_upon rest row))
names_by B None level own argued row rest a locked stack w h k = tt
names_by B (Some needs) level own argued row rest a locked stack w h k =
    subst (λ r. RowNames B r (row_unless (fault_by (Some needs) level argued a locked stack w) (given_upon rest row))) (denied_with w.objects a needs level stack own)
    (rows_unless B _ (first_denied w.objects a own) (fault_by (Some needs) level argued a locked stack w) (given_upon rest row) (names_first needs level argued a locked stack w h) (rows_upon B rest _ row k))
