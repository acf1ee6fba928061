-- For whom the text of a lock opens, as it is read part by part.
use Rattle.std.specs.Prelude.{ℕ, zero, suc, Bool, false, not, ◌&&◌, ◌||◌, ◌==◌, if◌then◌else◌, List, [], ◌∷◌, drop, Option, Some, None}
use Rattle.std.specs.Option.{option_map, option_and_then}
use Rattle.std.specs.List.{before_first, position_or_len}
use Rattle.muck_model.specs.declared.dbref.Dbref.{Dbref}
use Rattle.muck_lock.specs.declared.part.Part.{Part}
use Rattle.muck_lock.specs.declared.part.Part.TheVariants.{OneOf, AllOf, Term}
use Rattle.muck_lock.specs.Grammar.{ends_key, lock_key_of}
use denote.Bor.{Bor}
use Rattle.muck_lock.specs.Opens.{Holdings, opens_for}
use Rattle.muck_lock.specs.Answers.{no_names}

-- whether a part opens, with the bytes behind it; none where reading fails
abbrev pub Answer : Type 0
Answer = Option (Bool × List ℕ)

-- whether a key opens
abbrev pub key_opens : Holdings → Dbref → List ℕ → Option Bool
key_opens w x key = option_map (λ lock. opens_for w lock x) (lock_key_of no_names key)

unfoldable pub key_answer : Holdings → Dbref → List ℕ → Answer
key_answer w x text = option_map (λ b. (b, drop (position_or_len ends_key text) text)) (key_opens w x (before_first ends_key text))

abbrev pub negated_answer : Answer → Answer
negated_answer answer = option_map (λ p. (not p.0, p.1)) answer

abbrev pub closed_pair : Bool → List ℕ → Answer
closed_pair opens [] = None
closed_pair opens (b ∷ more) = if b == 41 then Some (opens, more) else None

abbrev pub closed_answer : Answer → Answer
closed_answer answer = option_and_then (λ p. closed_pair p.0 p.1) answer

-- what stands behind the sign, where it comes next
abbrev pub behind : ℕ → List ℕ → Option (List ℕ)
behind sign [] = None
behind sign (b ∷ rest) = if b == sign then Some rest else None

abbrev pub joined_by : (Bool → Bool → Bool) → (List ℕ → Answer) → Bool → List ℕ → Option (List ℕ) → Answer
joined_by join more opens rest None = Some (opens, rest)
joined_by join more opens rest (Some next) = option_map (λ p. (join opens p.0, p.1)) (more next)

abbrev pub followed_pair : ℕ → (Bool → Bool → Bool) → (List ℕ → Answer) → Bool → List ℕ → Answer
followed_pair sign join more opens rest = joined_by join more opens rest (behind sign rest)

abbrev pub followed_answer : ℕ → (Bool → Bool → Bool) → (List ℕ → Answer) → Answer → Answer
followed_answer sign join more answer = option_and_then (λ p. followed_pair sign join more p.0 p.1) answer

abbrev pub term_answer : Holdings → Dbref → (Part → List ℕ → Answer) → List ℕ → Answer
term_answer w x inside [] = None
term_answer w x inside (b ∷ more) =
    if b == 33 then negated_answer (inside Term more)
    else if b == 40 then closed_answer (inside OneOf more)
    else key_answer w x (b ∷ more)

abbrev pub all_answer : Holdings → Dbref → (Part → List ℕ → Answer) → List ℕ → Answer
all_answer w x inside text = followed_answer 38 (λ a b. a && b) (inside AllOf) (term_answer w x inside text)

abbrev pub one_answer : Holdings → Dbref → (Part → List ℕ → Answer) → List ℕ → Answer
one_answer w x inside text = followed_answer 124 (λ a b. a || b) (inside OneOf) (all_answer w x inside text)

abbrev pub part_in_answer : Holdings → Dbref → (Part → List ℕ → Answer) → Part → List ℕ → Answer
part_in_answer w x inside Term text = term_answer w x inside text
part_in_answer w x inside AllOf text = all_answer w x inside text
part_in_answer w x inside OneOf text = one_answer w x inside text

-- nested less deeply than the number says
unfoldable pub part_answer : Holdings → Dbref → ℕ → Part → List ℕ → Answer
part_answer w x zero part text = None
part_answer w x (suc depth) part text = part_in_answer w x (part_answer w x depth) part text

abbrev pub whole_opens : Answer → Bool
whole_opens None = false
whole_opens (Some (opens, [])) = opens
whole_opens (Some (opens, b ∷ rest)) = false

-- an answer of the code
abbrev pub seen : Option (Bool × Bor (List ℕ)) → Answer
seen answer = option_map (λ p. (p.0, p.1.now)) answer
