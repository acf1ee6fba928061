-- What a call for `mirror` answers, from where it ended.
use Rattle.std.proofs.Common.{◌≡◌, ◌⊎◌, inl, inr, ℕ, Bool, List, refl, sym, ◌∙◌, subst, Option, Some, None, Result, Ok, Err}
use Rattle.muck_log.specs.Store.{Chosen, Damage}
use Rattle.muck_follow.specs.declared.fault.FollowFault.{FollowFault}
use Rattle.muck_follow.specs.declared.fault.FollowFault.TheVariants as follow
use Rattle.muck_why.specs.declared.why.Why.{Why}
use Rattle.muck_why.specs.declared.why.Why.TheVariants.{Fine, BadScript, NoMemory, ReadFault, WriteFault, DiskFault, Damaged}
use Rattle.muck_run.specs.inner.Ends.{MayRefuse}
use Rattle.muck_mirroring.specs.Mirroring.{IsMirrorScriptLeft, IsFirstOutsideMirror, HasWrittenReplies, AreReplies, MirrorsAs}
use Rattle.muck_follow.specs.declared.act.Act.{Act}
use Rattle.muck_mirroring.specs.inner.Reading.{IsScriptWhy, why_of}
use Rattle.muck_io.specs.Sink.{AppendsFront}

-- no store was mounted
pub refused_ends : (why : Why) (U B : Type 0) → MayRefuse why → U → MirrorsAs why U B
refused_ends (Damaged second at) U B may u = u
refused_ends NoMemory U B may u = inl u
refused_ends DiskFault U B may u = inl u
refused_ends why U B may u = absurd may

-- no script was read
pub unread_ends : (left : Option (List ℕ)) (why : Why) (U B : Type 0) → IsScriptWhy left why → U → MirrorsAs why U B
unread_ends left (BadScript line) U B is u = u
unread_ends left NoMemory U B is u = inl u
unread_ends left ReadFault U B is u = u
unread_ends left why U B is u = absurd is

-- following ended early
pub ceased_ends : (fault : FollowFault) (U B : Type 0) → B → MirrorsAs (why_of fault) U B
ceased_ends follow.NoMemory U B b = inr b
ceased_ends follow.DiskFault U B b = inr b
ceased_ends follow.WriteFault U B b = b

pub ceased_text : (fault : FollowFault) (before now : Option (List ℕ)) (text : List ℕ) → AppendsFront before now text → HasWrittenReplies (why_of fault) before now text
ceased_text follow.NoMemory before now text front = front
ceased_text follow.DiskFault before now text front = front
ceased_text follow.WriteFault before now text front = front

-- and for no other cause
abbrev pub MayCease : Why → Type 0
MayCease NoMemory = Unit {0}
MayCease DiskFault = Unit {0}
MayCease WriteFault = Unit {0}
MayCease why = ⊥

pub may_cease : (fault : FollowFault) → MayCease (why_of fault)
may_cease follow.NoMemory = tt
may_cease follow.DiskFault = tt
may_cease follow.WriteFault = tt

pub is_write : (fault : FollowFault) → why_of fault ≡ WriteFault → fault ≡ follow.WriteFault
is_write follow.NoMemory e = cc
is_write follow.DiskFault e = cc
is_write follow.WriteFault e = refl

pub is_disk : (fault : FollowFault) → why_of fault ≡ DiskFault → fault ≡ follow.DiskFault
is_disk follow.NoMemory e = cc
is_disk follow.DiskFault e = refl
is_disk follow.WriteFault e = cc

grammar_stands : (left : Option (List ℕ)) (line : ℕ) → IsMirrorScriptLeft left → IsFirstOutsideMirror left line → ⊥
grammar_stands None line is outside = is
grammar_stands (Some bytes) line is outside = let both = sym is.1 ∙ outside in cc

-- where nothing stood in its way
pub completes : (left : Option (List ℕ)) (r : Result Chosen Damage) (chosen : Chosen) (U B : Type 0) (why : Why) → MirrorsAs why U B → ((line : ℕ) → why ≡ BadScript line → IsFirstOutsideMirror left line) → (why ≡ ReadFault → ⊥) → (why ≡ WriteFault → ⊥) → (why ≡ DiskFault → ⊥)
    → ((file : Bool) (at : ℕ) → why ≡ Damaged file at → r ≡ Err (record { second = file; at = at })) → r ≡ Ok chosen → IsMirrorScriptLeft left → (why ≡ Fine) ⊎ (why ≡ NoMemory)
completes left r chosen U B Fine ends bad read write disk damaged ok grammar = inl refl
completes left r chosen U B NoMemory ends bad read write disk damaged ok grammar = inr refl
completes left r chosen U B (BadScript line) ends bad read write disk damaged ok grammar = absurd (grammar_stands left line grammar (bad line refl))
completes left r chosen U B ReadFault ends bad read write disk damaged ok grammar = absurd (read refl)
completes left r chosen U B WriteFault ends bad read write disk damaged ok grammar = absurd (write refl)
completes left r chosen U B DiskFault ends bad read write disk damaged ok grammar = absurd (disk refl)
completes left r chosen U B (Damaged file at) ends bad read write disk damaged ok grammar = let both = sym ok ∙ damaged file at refl in cc
completes left r chosen U B why ends bad read write disk damaged ok grammar = absurd ends

-- the files held the same before they were opened
pub replies_before : (a b x y : List ℕ) (why : Why) (acts : List Act) (before now : Option (List ℕ)) → x ≡ a → y ≡ b → AreReplies x y why acts before now → AreReplies a b why acts before now
replies_before a b x y why acts before now first second is =
    let P : List ℕ → Type 0 = λ z. AreReplies z b why acts before now in
    let Q : List ℕ → Type 0 = λ z. AreReplies x z why acts before now in
    subst P first (subst Q second is)
