-- What a piece stands for where no definition is opened.
use Rattle.std.proofs.Common.{◌≡◌, ℕ, false, List, Some, None, Result, refl, sym, subst, zero, suc}
use Rattle.std.specs.Str.{bytes_eq}
use Rattle.std.specs.Map.{lookup}
use Rattle.muf_token.specs.declared.fault.Refusal.{Refusal}
use Rattle.muf_token.specs.declared.fault.TokenFault.{TokenFault}
use Rattle.muf_token.specs.declared.token.TokenKind.TheVariants.{Text as text_kind}
use Rattle.muf_token.specs.declared.piece.Piece.TheVariants.{Word, Text}
use Rattle.muf_token.specs.declared.output.Output.{Output}
use Rattle.muf_token.specs.Numbers.{token_kind}
use Rattle.muf_token.specs.Output.{word_put, Leads}
use Rattle.muf_token.specs.Expansion.{Definitions, is_directive, expanded}

pub leads_by : {A B : Type 0} (a b : Result A Refusal) (r : Result B TokenFault) (now : A) → a ≡ b → Leads b r now → Leads a r now
leads_by a b r now e h = subst (λ v. Leads v r now) (sym e) h

pub expanded_text : (n : ℕ) (definitions : Definitions) (line : ℕ) (text : List ℕ) (out : Output) → expanded n definitions line (Text text) out ≡ word_put line (Some (text_kind text)) out
unfolding expanded
expanded_text zero definitions line text out = refl
expanded_text (suc n) definitions line text out = refl

pub expanded_plain : (n : ℕ) (definitions : Definitions) (line : ℕ) (word : List ℕ) (out : Output) → is_directive word ≡ false → lookup (bytes_eq word) definitions ≡ None
    → expanded n definitions line (Word word) out ≡ word_put line (token_kind word) out
unfolding expanded
expanded_plain zero definitions line word out plain none = rw (plain, none) refl
expanded_plain (suc n) definitions line word out plain none = rw (plain, none) refl
