-- The bytes of a response.
use Rattle.std.specs.Prelude.{ℕ, ◌==◌, ◌||◌, Bool, if◌then◌else◌, List, [], ◌++◌, length, codes, Option, Some, None}
use Rattle.std.specs.Fmt.{decimal}
use Rattle.rtm_http.specs.declared.method.Method.{Method}
use Rattle.rtm_http.specs.declared.reply.Reply.{Reply}
use Rattle.rtm_http.specs.Route.{method_word}

-- the statuses that a response may have
abbrev pub is_code : ℕ → Bool
is_code status =
    status == 200 || status == 400 || status == 404 || status == 405 || status == 413 || status == 431 || status == 503

abbrev pub reason_of : ℕ → List ℕ
reason_of status =
    if status == 200 then codes "OK"
    else if status == 400 then codes "Bad Request"
    else if status == 404 then codes "Not Found"
    else if status == 405 then codes "Method Not Allowed"
    else if status == 413 then codes "Content Too Large"
    else if status == 431 then codes "Request Header Fields Too Large"
    else codes "Service Unavailable"

-- the body of a refusal
abbrev pub error_of : ℕ → List ℕ
error_of status =
    if status == 400 then codes "{\"error\":\"bad request\"}"
    else if status == 404 then codes "{\"error\":\"not found\"}"
    else if status == 405 then codes "{\"error\":\"method not allowed\"}"
    else if status == 413 then codes "{\"error\":\"content too large\"}"
    else if status == 431 then codes "{\"error\":\"header fields too large\"}"
    else codes "{\"error\":\"no memory\"}"

-- with status 503 no memory was found for a body, and its text stands here
abbrev pub body_of : Reply → List ℕ
body_of reply = if reply.status == 503 then error_of 503 else reply.body

abbrev pub status_line : ℕ → List ℕ
status_line status = codes "HTTP/1.1 " ++ decimal status ++ codes " " ++ reason_of status ++ codes "\r\n"

-- left out in an answer to HEAD
abbrev pub length_line : ℕ → Bool → List ℕ
length_line count head_only = if head_only then [] else codes "Content-Length: " ++ decimal count ++ codes "\r\n"

abbrev pub allow_line : Option Method → List ℕ
allow_line None = []
allow_line (Some method) = codes "Allow: " ++ method_word method ++ codes "\r\n"

abbrev pub close_line : Bool → List ℕ
close_line close = if close then codes "Connection: close\r\n" else []

-- the lines, and behind an empty one this body, which an answer to HEAD leaves out
abbrev pub response_with : Reply → List ℕ → Bool → Bool → List ℕ
response_with reply body close head_only =
    status_line reply.status
    ++ codes "Content-Type: application/json\r\n"
    ++ length_line (length body) head_only
    ++ allow_line reply.allow
    ++ close_line close
    ++ codes "\r\n"
    ++ (if head_only then [] else body)

-- the response to a request, after which the connection is closed where `close` holds, and whose method is HEAD where `head_only`
abbrev pub response : Reply → Bool → Bool → List ℕ
response reply close head_only = response_with reply (body_of reply) close head_only
