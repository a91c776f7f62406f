use Prim.Native.Nat.{ℕ, ◌≤◌, ◌<◌, ◌+◌, ◌*◌}
use mathlib.Core.Path.{refl}
use mathlib.Core.Logic.{⊎_elim}
use native.Mathlib.Omega.{arith}
use lib.ListN.{length}
use Rattle.wire.specs.Verdict.{each}
use Rattle.wire.proofs.Verdicts.{refuses, accepts}
use Rattle.psv0_layout.proofs.Judgements.{stays_inside, name_22, ill_22, index_23, element_passes, elements_pass}
use Rattle.psv0_sections.proofs.Tables.judge_elements.Goals as goal

-- element i starts, and the bytes that are known of it end, inside
inside : (i n stride size : ℕ) → i < n → n * stride ≤ size → (1 ≤ n → 16 ≤ stride) → i * stride + 16 ≤ size
inside i n stride size h f w =
    let end = stays_inside i n stride size h f in
    let known = w (omega arith) in
    omega arith

pub loop-i-init : goal.loop-i-init
loop-i-init c = (omega arith, λ b j. unfold each in refl)

pub overflow_mul-at : goal.overflow_mul-at
overflow_mul-at c = omega (arith, inside c.loop-i.i c.args.self.now.count c.args.self.now.stride (length c.args.self.now.elements.now) c.loop-i-test.true c.args.self.now.inside c.args.self.now.known)

pub overflow_add-r : goal.overflow_add-r
overflow_add-r c = omega (arith, inside c.loop-i.i c.args.self.now.count c.args.self.now.stride (length c.args.self.now.elements.now) c.loop-i-test.true c.args.self.now.inside c.args.self.now.known)

pub slice_bounds-r-end : goal.slice_bounds-r-end
slice_bounds-r-end c = inside c.loop-i.i c.args.self.now.count c.args.self.now.stride (length c.args.self.now.elements.now) c.loop-i-test.true c.args.self.now.inside c.args.self.now.known

pub returns-then-end-u32_at : goal.returns-then-end-u32_at
returns-then-end-u32_at c =
    let l = c.loop-i in
    λ b j.
    refuses _ _ c.refused.ensures
    (⊎_elim (name_22 _ _ _ _ _ _ b j _ _ _ c.loop-i-test.true refl c.u32_at.ensures (l.invariant.1 b j) l.invariant.0)
    (λ q. ill_22 _ _ _ _ _ _ b j _ _ _ c.loop-i-test.true refl c.u32_at.ensures (l.invariant.1 b j) q.0 q.1) c.then-end-u32_at.either)

pub returns-then-self-u32_at : goal.returns-then-self-u32_at
returns-then-self-u32_at c =
    let l = c.loop-i in
    λ b j.
    refuses _ _ c.refused-then-self-u32_at.ensures
    (index_23 _ _ _ _ _ _ b j _ _ _ c.loop-i-test.true refl c.u32_at.ensures (l.invariant.1 b j) c.if-end-u32_at.false l.invariant.0
    c.if-i-ill.false _ _ c.u32_at-in-loop-i.ensures c.byte_at.ensures c.if-self-u32_at.true)

pub loop-i-preserved : goal.loop-i-preserved
loop-i-preserved c =
    let l = c.loop-i in (
      omega (arith, l.invariant.0, c.if-i-ill.false),
      λ b j.
          element_passes _ _ _ _ _ _ b j _ _ _ c.loop-i-test.true refl c.u32_at.ensures (l.invariant.1 b j) c.if-end-u32_at.false l.invariant.0
          c.if-i-ill.false _ _ c.u32_at-in-loop-i.ensures c.byte_at.ensures c.if-self-u32_at.false,
    )

pub returns : goal.returns
returns c =
    let l = c.loop-i in
    λ b j. accepts _ _ (elements_pass _ _ _ _ _ _ b j _ (omega (arith, c.loop-i.auto.i-end, c.loop-i-test.false)) (l.invariant.1 b j))
