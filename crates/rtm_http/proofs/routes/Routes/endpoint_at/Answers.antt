use Rattle.std.proofs.Common.{◌≡◌, sym, ap, ◌∙◌, Some}
use Rattle.matchit.specs.Seek.{first}
use Rattle.rtm_http.proofs.RouteLemmas.{are_bytes, leads, found_leads, same_value}
use Rattle.rtm_http.proofs.routes.Routes.endpoint_at.Goals as goal

pub returns-in-Ok-at-clause-leads : goal.returns-in-Ok-at-clause-leads
returns-in-Ok-at-clause-leads c =
    let text : c.in-Ok.text.now ≡ c.args.path.now = c.in-Ok.ensures.cases.0 in
    let is = ap (λ rows. first rows c.args.path.now) (sym c.args.self.now.rows) ∙ ap (first c.args.self.now.router) (sym text) ∙ c.in-Ok-at.ensures.found in
    found_leads c.args.path.now (are_bytes c.args.path.now (λ i. (c.type_inv.path i).fits)) c.in-Ok.ensures.cases.1 _ is

pub returns-in-Ok-at-clause-found : goal.returns-in-Ok-at-clause-found
returns-in-Ok-at-clause-found c = λ target is.
    let text : c.in-Ok.text.now ≡ c.args.path.now = c.in-Ok.ensures.cases.0 in
    let found = leads c.args.path.now (are_bytes c.args.path.now (λ i. (c.type_inv.path i).fits)) target is in
    let here = ap (λ rows. first rows c.args.path.now) (sym c.args.self.now.rows) ∙ ap (first c.args.self.now.router) (sym text) ∙ c.in-Ok-at.ensures.found in
    ap Some (same_value here found.1 ∙ found.2)

pub returns-in-Err-clause-found : goal.returns-in-Err-clause-found
returns-in-Err-clause-found c = λ target is.
    let text : c.in-Ok.text.now ≡ c.args.path.now = c.in-Ok.ensures.cases.0 in
    let found = leads c.args.path.now (are_bytes c.args.path.now (λ i. (c.type_inv.path i).fits)) target is in
    let none = ap (λ rows. first rows c.args.path.now) (sym c.args.self.now.rows) ∙ ap (first c.args.self.now.router) (sym text) ∙ c.in-Err.ensures.missing in
    cc
