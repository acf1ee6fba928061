-- Which rows are those of primitives that give an item and change nothing.
use Rattle.std.proofs.Common.{◌≡◌, None, refl}
use Rattle.muf_model.specs.declared.prims.Primitive.{Primitive}
use Rattle.muf_model.specs.declared.prims.Primitive.TheVariants.{Call, Fork, Sleep, Read, Kill, Pid, IsPid, Queue, Mode, SetMode, Preempt, Foreground, Background, SysTime, Random, EventSend, EventWait, EventCount, Prog, Trig, Caller, Cmd}
use Rattle.spec_processes.specs.ProcessRows.{process_row}
use Rattle.prim_proc.specs.inner.Plans.{fact_row}

pub no_fact : (p : Primitive) → (p ≡ Pid → ⊥) → (p ≡ Mode → ⊥) → (p ≡ SysTime → ⊥) → (p ≡ EventCount → ⊥) → (p ≡ Prog → ⊥) → (p ≡ Trig → ⊥) → (p ≡ Caller → ⊥) → (p ≡ Cmd → ⊥) → fact_row p ≡ None
no_fact Pid a b c d e f g h = absurd (a refl)
no_fact Mode a b c d e f g h = absurd (b refl)
no_fact SysTime a b c d e f g h = absurd (c refl)
no_fact EventCount a b c d e f g h = absurd (d refl)
no_fact Prog a b c d e f g h = absurd (e refl)
no_fact Trig a b c d e f g h = absurd (f refl)
no_fact Caller a b c d e f g h = absurd (g refl)
no_fact Cmd a b c d e f g h = absurd (h refl)
no_fact _ a b c d e f g h = refl

pub other_row : (p : Primitive) → (p ≡ Call → ⊥) → (p ≡ Fork → ⊥) → (p ≡ Sleep → ⊥) → (p ≡ Read → ⊥) → (p ≡ Kill → ⊥) → (p ≡ IsPid → ⊥) → (p ≡ Queue → ⊥) → (p ≡ SetMode → ⊥) → (p ≡ Preempt → ⊥) → (p ≡ Foreground → ⊥) → (p ≡ Background → ⊥) → (p ≡ Random → ⊥) → (p ≡ EventSend → ⊥) → (p ≡ EventWait → ⊥) → process_row p ≡ fact_row p
other_row Call a b c d e f g h i j k l m n = absurd (a refl)
other_row Fork a b c d e f g h i j k l m n = absurd (b refl)
other_row Sleep a b c d e f g h i j k l m n = absurd (c refl)
other_row Read a b c d e f g h i j k l m n = absurd (d refl)
other_row Kill a b c d e f g h i j k l m n = absurd (e refl)
other_row IsPid a b c d e f g h i j k l m n = absurd (f refl)
other_row Queue a b c d e f g h i j k l m n = absurd (g refl)
other_row SetMode a b c d e f g h i j k l m n = absurd (h refl)
other_row Preempt a b c d e f g h i j k l m n = absurd (i refl)
other_row Foreground a b c d e f g h i j k l m n = absurd (j refl)
other_row Background a b c d e f g h i j k l m n = absurd (k refl)
other_row Random a b c d e f g h i j k l m n = absurd (l refl)
other_row EventSend a b c d e f g h i j k l m n = absurd (m refl)
other_row EventWait a b c d e f g h i j k l m n = absurd (n refl)
other_row Pid a b c d e f g h i j k l m n = refl
other_row Mode a b c d e f g h i j k l m n = refl
other_row SysTime a b c d e f g h i j k l m n = refl
other_row EventCount a b c d e f g h i j k l m n = refl
other_row Prog a b c d e f g h i j k l m n = refl
other_row Trig a b c d e f g h i j k l m n = refl
other_row Caller a b c d e f g h i j k l m n = refl
other_row Cmd a b c d e f g h i j k l m n = refl
other_row _ a b c d e f g h i j k l m n = refl
