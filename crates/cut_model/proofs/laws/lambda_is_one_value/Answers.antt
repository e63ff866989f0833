use Rattle.cut_model.proofs.Lambdas.{lambda_value, lambda_turned}
use Rattle.cut_model.proofs.laws.lambda_is_one_value.Goals as goal

pub returns-clause-value : goal.returns-clause-value
returns-clause-value c = lambda_value

pub returns-clause-turned : goal.returns-clause-turned
returns-clause-turned c = lambda_turned
