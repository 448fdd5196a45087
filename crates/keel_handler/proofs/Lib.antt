mod Alone
mod Standing
