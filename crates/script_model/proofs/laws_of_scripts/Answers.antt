use Rattle.script_model.proofs.FormLaws.{forms_are_productions}
use Rattle.script_model.proofs.ScriptLaws.{commands_are_scripts}
use Rattle.script_model.proofs.laws_of_scripts.Goals as goal

pub returns-clause-forms : goal.returns-clause-forms
returns-clause-forms c = forms_are_productions

pub returns-clause-scripts : goal.returns-clause-scripts
returns-clause-scripts c = commands_are_scripts
