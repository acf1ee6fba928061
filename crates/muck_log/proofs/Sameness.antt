-- Two records are the same exactly where their fields are.
use Rattle.std.proofs.Common.{◌≡◌, Bool, ◌&&◌, ap}
use Rattle.std.specs.Bool.{Decides}
use Rattle.std.proofs.lemmas.Bool.Decides.{Decides-and, Decides-like}
use Rattle.muck_codec.specs.declared.record.Head.{Head}
use Rattle.muck_codec.specs.declared.record.Ties.{Ties}
use Rattle.muck_codec.specs.declared.record.Lists.{Lists}
use Rattle.muck_codec.specs.declared.record.Texts.{Texts}
use Rattle.muck_codec.specs.declared.stored.Stored.{Stored}
use Rattle.muck_codec.specs.Records.{stored_from_parts}
use Rattle.muck_log.specs.inner.Same.{HasSameHead, HasSameTies, HasSameLists, HasSameTexts}

abbrev parts_of : Stored → Head × (Ties × (Lists × Texts))
parts_of o = (
  record { dbref = o.dbref; kind = o.kind; flags = o.flags; level = o.level },
  (
    record { owner = o.owner; place = o.place; link = o.link; home = o.home },
    (record { first_content = o.first_content; first_exit = o.first_exit; next = o.next }, record { name = o.name; props = o.props; lines = o.lines; digest = o.digest }),
  ),
)

same_all : (a b : Stored) → HasSameHead a b → HasSameTies a b → HasSameLists a b → HasSameTexts a b → a ≡ b
same_all a b head ties lists texts = ap stored_from_parts parts
  where
    parts : parts_of a ≡ parts_of b
    parts = cc

pub same_by : (a b : Stored) (head ties lists texts : Bool) → Decides head (HasSameHead a b) → Decides ties (HasSameTies a b) → Decides lists (HasSameLists a b) → Decides texts (HasSameTexts a b)
    → Decides (head && (ties && (lists && texts))) (a ≡ b)
same_by a b head ties lists texts h t l x =
    Decides-like (head && (ties && (lists && texts))) (λ same. same_all a b same.0 same.1.0 same.1.1.0 same.1.1.1) (λ e. (has_head e, (has_ties e, (has_lists e, has_texts e))))
    (Decides-and head (ties && (lists && texts)) h (Decides-and ties (lists && texts) t (Decides-and lists texts l x)))
  where
    has_head : a ≡ b → HasSameHead a b
    has_head e = (cc, (cc, (cc, cc)))

    has_ties : a ≡ b → HasSameTies a b
    has_ties e = (cc, (cc, (cc, cc)))

    has_lists : a ≡ b → HasSameLists a b
    has_lists e = (cc, (cc, cc))

    has_texts : a ≡ b → HasSameTexts a b
    has_texts e = (cc, (cc, (cc, cc)))
