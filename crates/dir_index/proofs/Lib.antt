mod Names
mod Places
mod Above
mod Changes
