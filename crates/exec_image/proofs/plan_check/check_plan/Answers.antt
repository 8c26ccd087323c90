-- No fault is what it is to fit.
use Rattle.exec_image.proofs.PlanFits.{says_fits, says_misfits}
use Rattle.exec_image.proofs.plan_check.check_plan.Goals as goal

pub returns-clause-fits : goal.returns-clause-fits
returns-clause-fits c = says_fits c.the_first_number_that_passes_is_found.ensures.none c.find_fault.result
    c.args.image.now c.args.plan.now c.find_fault.ensures.exact c.find_fault.ensures.bound

pub returns-clause-misfits : goal.returns-clause-misfits
returns-clause-misfits c = says_misfits c.the_first_number_that_passes_is_found.ensures.none c.find_fault.result
    c.args.image.now c.args.plan.now c.find_fault.ensures.exact
