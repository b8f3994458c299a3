use Rattle.dsa_report_rows.proofs.search_texts.plans_of_set_ups.Goals as goal

pub returns-clause-runnable : goal.returns-clause-runnable
returns-clause-runnable c bytes caps script setup labels acts watches plan = plan.runnable

pub returns-clause-events : goal.returns-clause-events
returns-clause-events c bytes caps script setup labels acts watches plan = plan.events

pub returns-clause-watched : goal.returns-clause-watched
returns-clause-watched c bytes caps script setup labels acts watches plan = plan.watched

pub returns-clause-entries_called : goal.returns-clause-entries_called
returns-clause-entries_called c bytes caps script setup labels acts watches plan = plan.entries_called

pub returns-clause-acts_called : goal.returns-clause-acts_called
returns-clause-acts_called c bytes caps script setup labels acts watches plan = plan.acts_called
