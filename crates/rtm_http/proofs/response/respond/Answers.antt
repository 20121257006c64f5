use Rattle.std.proofs.Common.{List, ℕ, ◌++◌, length, codes, ap, ◌∙◌}
use Rattle.std.specs.Prelude.{[], if◌then◌else◌}
use Rattle.rtm_http.specs.Response.{response_with, status_line, length_line, allow_line, close_line}
use Rattle.rtm_http.proofs.response.respond.Goals as goal

-- one piece behind another
pub returns : goal.returns
returns c =
    let reply = c.args.reply.now in
    let body : List ℕ = c.body_of-body.result.now in
    let first = c.in_ok-put_status.ensures ∙ ap (λ (b : List ℕ). b ++ status_line reply.status) c.new-bytes.ensures.items in
    let kind = c.in_ok-put.ensures ∙ ap (λ (b : List ℕ). b ++ codes "Content-Type: application/json\r\n") first in
    let count = c.in_ok-put_length.ensures ∙ ap (λ (b : List ℕ). b ++ length_line (length body) c.args.head_only) kind in
    let allow = c.in_ok-put_allow.ensures ∙ ap (λ (b : List ℕ). b ++ allow_line reply.allow) count in
    let close = c.in_ok-put_close.ensures ∙ ap (λ (b : List ℕ). b ++ close_line c.args.close) allow in
    let empty = c.in_ok-put-2.ensures ∙ ap (λ (b : List ℕ). b ++ codes "\r\n") close in
    let all = c.in_ok-put_body.ensures ∙ ap (λ (b : List ℕ). b ++ (if c.args.head_only then [] else body)) empty in
    c.of.ensures ∙ all ∙ ap (λ (b : List ℕ). response_with reply b c.args.close c.args.head_only) c.body_of-body.ensures
