-- The first refusal is that of all links.
use Rattle.std.proofs.Common.{◌≡◌, ◌+◌, refl, sym, ap, ◌∙◌, rules, arith, Err}
use Rattle.network.specs.Checked.{first_refusal}
use Rattle.network.specs.Writing.{Link, link_figures_checked, link_from}
use Rattle.survey_roundtrip.specs.Columns.{columns-found, columns-more, columns_checked, fits_more, met_all}
use Rattle.survey_writing.proofs.figures.check_links.Goals as goal
use Rattle.survey_writing.proofs.figures.check_links.Goals.{After-check_link}

-- the verdict on link i
link : (c : After-check_link) → let g = c.args.f in
    c.check_link.result ≡ link_figures_checked c.args.f.yard (link_from 0 g.ends.now g.sums.now g.costs.now c.loop-i.i) (c.loop-i.i + 1)
link c = c.check_link.ensures ∙ ap (λ (x : Link). link_figures_checked c.args.f.yard x (c.loop-i.i + 1)) c.link.ensures.link

pub loop-i-init : goal.loop-i-init
unfolding columns_checked first_refusal
loop-i-init c = record { checked = refl; fits = λ j h. absurd (omega arith) }

pub returns-in_err-check_link : goal.returns-in_err-check_link
returns-in_err-check_link c =
    let done = columns-found _ _ _ c.args.f.full _ c.loop-i-test.true c.link.ensures.fits _ (link ((goal.at.returns-in_err-check_link c).After-check_link))
    c.loop-i.invariant.checked _ c.in_err-check_link.was c.loop-i.invariant.fits in
    let same : c.from_residual.result ≡ Err c.in_err-check_link.field-0.0 = search rules in
    record { verdict = same ∙ sym c.in_err-check_link.was ∙ done.0; met = done.1 }

pub loop-i-preserved : goal.loop-i-preserved
loop-i-preserved c =
    let full = c.args.f.full in
    record {
      checked = columns-more _ _ _ full _ c.loop-i-test.true c.link.ensures.fits _ (link ((goal.at.loop-i-preserved c).After-check_link))
          c.loop-i.invariant.checked c.in_ok-check_link.was;
      fits = fits_more _ _ _ full _ c.loop-i-test.true c.link.ensures.fits c.loop-i.invariant.fits;
    }

pub returns : goal.returns
returns c =
    let so_far = c.loop-i.invariant in
    record {
      verdict = sym so_far.checked ∙ ap (columns_checked _ _ _ _) (omega arith);
      met = met_all _ _ _ _ c.args.f.full (λ j h. so_far.fits j (omega arith));
    }
