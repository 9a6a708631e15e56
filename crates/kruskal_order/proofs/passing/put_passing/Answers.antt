use Rattle.std.proofs.Common.{◌<◌, length, arith, refl, length-set}
use Rattle.order.proofs.Lists.{get_or-mem}
use Rattle.kruskal_order.specs.Collect.{collect-end, collect-start, collect-turn, one_at_most}
use Rattle.kruskal_order.proofs.passing.put_passing.Goals as goal

pub loop-link-init : goal.loop-link-init
loop-link-init g c = (refl, omega arith, λ p h. collect-start p _ _ c.requires.1)

pub passes-requires : goal.passes-requires
passes-requires g c = let within : c.loop-link.link-index < length c.args.links.now = omega arith in c.requires.0 _ (get_or-mem _ _ 0 within)

pub overflow_add-n : goal.overflow_add-n
overflow_add-n g c = omega (arith, one_at_most c.passes.result, c.requires.1)

pub loop-link-preserved : goal.loop-link-preserved
loop-link-preserved g c =
    let v = c.loop-link in
    let within : v.link-index < length c.args.links.now = omega arith in (
      simp length-set v.invariant.0,
      omega (arith, one_at_most c.passes.result, v.invariant.1),
      λ p h. collect-turn p (v.invariant.2 p h) within (h _ _ (get_or-mem _ _ 0 within) c.passes.ensures),
    )

pub returns : goal.returns
returns g c = λ p h. collect-end p (c.loop-link.invariant.2 p h) (omega arith)
