use Rattle.aml_steady.proofs.KindsStay.{lists_keep, stores_keep, terms_keep, values_keep}
use Rattle.aml_steady.proofs.terms_keep_kinds.Goals as goal

pub returns-clause-terms : goal.returns-clause-terms
returns-clause-terms c = terms_keep

pub returns-clause-values : goal.returns-clause-values
returns-clause-values c = values_keep

pub returns-clause-lists : goal.returns-clause-lists
returns-clause-lists c = lists_keep

pub returns-clause-stores : goal.returns-clause-stores
returns-clause-stores c = stores_keep
