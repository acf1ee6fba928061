-- The command of a word: one of builders' own, or what sets a message.
use Rattle.std.proofs.Common.{◌≡◌, Bool, true, false, cond, ℕ, List, [], ◌∷◌, ◌++◌, map, find, Some, None, refl, sym, ap, ◌∙◌}
use Rattle.std.specs.Option.{option_map, option_or}
use Rattle.spec_live.specs.declared.message.Message.{Message}
use Rattle.spec_live.specs.Messages.{row_of, messages}
use Rattle.spec_commands.specs.declared.word.BuildWord.{BuildWord}
use Rattle.spec_commands.specs.declared.word.BuildWord.TheVariants.{Set}
use Rattle.spec_commands.specs.Texts.{is_alike}
use Rattle.spec_commands.specs.Reading.{looked_up}
use Rattle.spec_commands.specs.Commands.{build_own, set_word, build_words}

in_both : (rows more : List (List ℕ × BuildWord)) (word : List ℕ) → looked_up (rows ++ more) word ≡ option_or (looked_up rows word) (looked_up more word)
in_both [] more word = refl
in_both (row ∷ rows) more word = at (in_both rows more word) (is_alike word row.0)
  where
    at : looked_up (rows ++ more) word ≡ option_or (looked_up rows word) (looked_up more word) → (b : Bool)
        → cond b (Some row.1) (looked_up (rows ++ more) word) ≡ option_or (cond b (Some row.1) (looked_up rows word)) (looked_up more word)
    at later true = refl
    at later false = later

in_messages : (ms : List Message) (word : List ℕ) → looked_up (map set_word ms) word ≡ option_map Set (find (λ m. is_alike word (row_of m).word) ms)
in_messages [] word = refl
in_messages (m ∷ ms) word = at (in_messages ms word) (is_alike word (row_of m).word)
  where
    at : looked_up (map set_word ms) word ≡ option_map Set (find (λ m. is_alike word (row_of m).word) ms) → (b : Bool)
        → cond b (Some (Set m)) (looked_up (map set_word ms) word) ≡ option_map Set (cond b (Some m) (find (λ m. is_alike word (row_of m).word) ms))
    at later true = refl
    at later false = later

found : (word : List ℕ) → looked_up build_words word ≡ option_or (looked_up build_own word) (option_map Set (find (λ m. is_alike word (row_of m).word) messages))
unfolding build_words
found word = in_both build_own (map set_word messages) word ∙ ap (option_or (looked_up build_own word)) (in_messages messages word)

pub own_found : (word : List ℕ) (rows : List (List ℕ × BuildWord)) (command : BuildWord) → rows ≡ build_own → looked_up rows word ≡ Some command → Some command ≡ looked_up build_words word
own_found word rows command is e = sym (found word ∙ ap (λ o. option_or o (option_map Set (find (λ m. is_alike word (row_of m).word) messages))) (sym (ap (λ x. looked_up x word) is) ∙ e))

left_found : (word : List ℕ) (rows : List (List ℕ × BuildWord)) → rows ≡ build_own → looked_up rows word ≡ None → looked_up build_words word ≡ option_map Set (find (λ m. is_alike word (row_of m).word) messages)
left_found word rows is e = found word ∙ ap (λ o. option_or o (option_map Set (find (λ m. is_alike word (row_of m).word) messages))) (sym (ap (λ x. looked_up x word) is) ∙ e)

pub message_found : (word : List ℕ) (rows : List (List ℕ × BuildWord)) (m : Message) → rows ≡ build_own → looked_up rows word ≡ None
    → find (λ m. is_alike word (row_of m).word) messages ≡ Some m → Some (Set m) ≡ looked_up build_words word
message_found word rows m is e set = sym (left_found word rows is e ∙ ap (option_map Set) set)

pub none_found : (word : List ℕ) (rows : List (List ℕ × BuildWord)) → rows ≡ build_own → looked_up rows word ≡ None → find (λ m. is_alike word (row_of m).word) messages ≡ None → None ≡ looked_up build_words word
none_found word rows is e set = sym (left_found word rows is e ∙ ap (option_map Set) set)
