-- The figures of a survey and of a link, as the code hands them on.
use Rattle.network.specs.Writing.{Figures, Link, figures_from}
use Rattle.survey_writing.specs.declared.survey.LinkFigures.{LinkFigures}
use Rattle.survey_writing.specs.declared.survey.SurveyFigures.{SurveyFigures}

-- what those of a link say
abbrev pub link_of : LinkFigures → Link
link_of x = record { first = x.first; second = x.second; sum = x.sum; c1 = x.c1; c2 = x.c2 }

-- what those of a survey say
abbrev pub figures_of : SurveyFigures → Figures
figures_of f = figures_from f.yard f.ends.now f.sums.now f.costs.now
