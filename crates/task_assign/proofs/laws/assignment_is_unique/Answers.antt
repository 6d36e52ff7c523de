use Rattle.task_assign.proofs.Unique.{columns_same, rows_same, column_numbers_same, total_same}
use Rattle.task_assign.proofs.laws.assignment_is_unique.Goals as goal

pub returns-clause-columns : goal.returns-clause-columns
returns-clause-columns c = λ square a b is_a is_b. columns_same square a b is_a is_b

pub returns-clause-rows : goal.returns-clause-rows
returns-clause-rows c = λ square a b is_a is_b. rows_same square a b is_a is_b

pub returns-clause-column_numbers : goal.returns-clause-column_numbers
returns-clause-column_numbers c = λ square a b is_a is_b. column_numbers_same square a b is_a is_b

pub returns-clause-total : goal.returns-clause-total
returns-clause-total c = λ square a b is_a is_b. total_same square a b is_a is_b
