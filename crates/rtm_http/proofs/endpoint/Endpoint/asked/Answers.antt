use Rattle.std.proofs.Common.{◌∙◌}
use Rattle.rtm_http.proofs.CallLemmas.{asked_part, asked_tick, asked_wait, asked_field}
use Rattle.rtm_http.proofs.endpoint.Endpoint.asked.Goals as goal

pub returns-in-Part : goal.returns-in-Part
returns-in-Part c = λ target e leads. asked_part c.args.path.now c.behind-parameter.result.now c.read_name.result c.behind-parameter.ensures c.read_name.ensures target (e ∙ c.in-Part.is) leads

pub returns-in-Field : goal.returns-in-Field
returns-in-Field c = λ target e leads. asked_field c.args.path.now c.read_field.result c.read_field.ensures target (e ∙ c.in-Field.is) leads

pub returns-in-Wait : goal.returns-in-Wait
returns-in-Wait c = λ target e leads. asked_wait c.args.path.now c.behind-parameter.result.now c.wait_for.result c.behind-parameter.ensures c.wait_for.ensures target (e ∙ c.in-Wait.is) leads

pub returns-in-Tick : goal.returns-in-Tick
returns-in-Tick c = λ target e leads. asked_tick c.args.path.now c.behind-parameter.result.now c.read_name-in-Tick.result c.behind-parameter.ensures c.read_name-in-Tick.ensures target (e ∙ c.in-Tick.is) leads
